-- What a format leaves out can be put back: proved plainly where nothing is, and once for dropping.
--   Undone   taking away and adding what is left out undo each other, and adding keeps the order
-- Assumes nothing.
use Rattle.std.specs.Prelude.{◌≡◌, ℕ, ◌+◌, ◌-◌, ◌*◌, ◌/◌, ◌%◌, ◌<◌, ◌≤◌, false, ◌&&◌, refl}
use Rattle.std.proofs.Common.{ap, ◌∙◌, arith}
use Rattle.std.proofs.lemmas.Bool.Decides.{nat_tests}
use Rattle.forms.specs.Formats.{values}
use Rattle.forms.specs.Labels.{minutes_in, nominal, left_out, dropped_before, added_to, label_of}
use Rattle.forms.specs.declared.format.Format.{Format}
use Rattle.forms.specs.declared.format.Format.TheVariants.{Film24, Pal25, Full30, Drop30}
use Rattle.forms.specs.declared.label.Label.{Label}
use Rattle.forms.specs.Nominal.{InRange, nominal_below}
use Rattle.forms.specs.Clock.{minute_back, past_gap, minute_below, minutes_of, frames_of, last_figure, left_out_until, added_at, added_rises}

pub record Undone (f : Format) : Type 0 where
  pub some : 0 < (values f).rate
  pub within : (n : ℕ) → n < (values f).day → n + added_to f n < (values f).rate * 86400
  pub back : (n : ℕ) → n < (values f).day → (n + added_to f n) - dropped_before f (minutes_in (label_of f n)) ≡ n
  pub kept : (n : ℕ) → n < (values f).day → ((values f).drops && left_out (label_of f n)) ≡ false
  pub forth : (l : Label) → InRange (values f).rate l → ((values f).drops && left_out l) ≡ false
      → let n : ℕ = nominal (values f).rate l - dropped_before f (minutes_in l) in
      (n + added_to f n ≡ nominal (values f).rate l) × (n < (values f).day)
  pub rises : (m n : ℕ) → m ≤ n → added_to f m ≤ added_to f n

-- a format that leaves nothing out
pub plain : (f : Format) → (values f).drops ≡ false → 0 < (values f).rate → (values f).day ≡ (values f).rate * 86400 → Undone f
plain f off pos day = record {
  some = pos;
  within = λ n h. rw off (omega arith);
  back = λ n h. rw off (omega arith);
  kept = λ n h. rw off refl;
  forth = λ l h e. rw off (omega arith, omega (arith, nominal_below (values f).rate l h));
  rises = λ m n h. rw off (omega arith);
}

pub not_left_out : (l : Label) → (0 < l.minutes % 10 → 2 ≤ 30 * l.seconds + l.frames) → left_out l ≡ false
not_left_out l gap = grind (arith, nat_tests)

pub gap_of : (l : Label) → left_out l ≡ false → 0 < l.minutes % 10 → 2 ≤ 30 * l.seconds + l.frames
gap_of l e odd = grind (arith, nat_tests)

-- the minute of a number's label, by ten minutes b and minute k of them
dropped_minutes : (n : ℕ) → minutes_in (label_of Drop30 n) ≡ 10 * (n / 17982) + (n % 17982 - 2) / 1798
dropped_minutes n = minutes_of (n + added_to Drop30 n) ∙ minute_back n (n / 17982) ((n % 17982 - 2) / 1798) refl refl

dropped_back : (n : ℕ) → n < 2589408 → (n + added_to Drop30 n) - dropped_before Drop30 (minutes_in (label_of Drop30 n)) ≡ n
dropped_back n h =
    let b : ℕ = n / 17982 in
    let k : ℕ = (n % 17982 - 2) / 1798 in
    let until = left_out_until b k (minute_below n k refl) in
    rw (dropped_minutes n, until) (omega arith)

dropped_kept : (n : ℕ) → n < 2589408 → left_out (label_of Drop30 n) ≡ false
dropped_kept n h =
    let b : ℕ = n / 17982 in
    let k : ℕ = (n % 17982 - 2) / 1798 in
    let x : ℕ = n + (18 * b + 2 * k) in
    let is : x / 1800 ≡ 10 * b + k = minute_back n b k refl refl in
    let k< : k < 10 = minute_below n k refl in
    let last : x / 30 / 60 % 60 % 10 ≡ k = last_figure x b k is k< in
    not_left_out (label_of Drop30 n) (λ odd. rw (frames_of x) (past_gap n b k refl refl (rw last at odd)))

dropped_number : (t f b k : ℕ) → t / 10 ≡ b → t % 10 ≡ k → 1800 * t + f - 2 * (t - t / 10) ≡ 17982 * b + (1798 * k + f)
dropped_number t f b k tens rest = omega arith

dropped_forth : (l : Label) → InRange 30 l → left_out l ≡ false
    → let n : ℕ = nominal 30 l - dropped_before Drop30 (minutes_in l) in
    (n + added_to Drop30 n ≡ nominal 30 l) × (n < 2589408)
dropped_forth l h e =
    let t : ℕ = minutes_in l in
    let f : ℕ = 30 * l.seconds + l.frames in
    let b : ℕ = t / 10 in
    let k : ℕ = t % 10 in
    let f< : f < 1800 = omega arith in
    let k< : k < 10 = omega arith in
    let same : k ≡ l.minutes % 10 = omega arith in
    let gap : 0 < k → 2 ≤ f = λ odd. gap_of l e (rw same at odd) in
    let flat : nominal 30 l ≡ 1800 * t + f = omega arith in
    let is : nominal 30 l - dropped_before Drop30 t ≡ 17982 * b + (1798 * k + f)
    = ap (λ x. x - 2 * (t - t / 10)) flat ∙ dropped_number t f b k refl refl in
    let below : 17982 * b + (1798 * k + f) < 2589408 = omega arith in
    let whole : 17982 * b + (1798 * k + f) + (18 * b + 2 * k) ≡ nominal 30 l = omega arith in (
      ap (λ n. n + added_to Drop30 n) is ∙ ap (λ a. 17982 * b + (1798 * k + f) + a) (added_at b k f k< f< gap) ∙ whole,
      rw is below,
    )

pub dropping : Undone Drop30
dropping = record {
  some = omega arith;
  within = λ n h. omega arith;
  back = dropped_back;
  kept = dropped_kept;
  forth = dropped_forth;
  rises = added_rises;
}

pub undone : (f : Format) → Undone f
undone Film24 = plain Film24 refl (omega arith) refl
undone Pal25 = plain Pal25 refl (omega arith) refl
undone Full30 = plain Full30 refl (omega arith) refl
undone Drop30 = dropping

-- Timecode labels: which are valid, the number of each, and the label of each number.
--   minutes_in      whole minutes up to a label, T
--   seconds_in      whole seconds up to a label, Z
--   nominal         the number of a label where none is left out
--   in_range        each part is below its bound
--   left_out        a label that dropping leaves out: frame 0 or 1 in second 0 of a minute that is no multiple of ten
--   valid           a format has the label
--   dropped_before  how many labels a format leaves out up to minute t, its own two among them
--   label_number    the number of a label, where it is valid
--   added_to        how many labels a format leaves out up to the label of number n: in ten minutes 17,982 labels stand,
--                   1,800 in the first minute and 1,798 in each other
--   nominal_label   the label of a number where none is left out
--   label_of        the label of a number
--   no_label        a label that no format has
--   label_parts     a label's parts, the weightiest first
-- Assumes nothing.
use Rattle.std.specs.Prelude.{ℕ, ◌+◌, ◌-◌, ◌*◌, ◌/◌, ◌%◌, Bool, if◌then◌else◌, not, ◌&&◌, List, [], ◌∷◌, Some, None, Option, ◌==◌, nat_lt}
use Rattle.forms.specs.Formats.{values}
use Rattle.forms.specs.declared.format.Format.{Format}
use Rattle.forms.specs.declared.label.Label.{Label}

abbrev pub minutes_in : Label → ℕ
minutes_in l = 60 * l.hours + l.minutes

abbrev pub seconds_in : Label → ℕ
seconds_in l = 60 * minutes_in l + l.seconds

abbrev pub nominal : ℕ → Label → ℕ
nominal c l = c * seconds_in l + l.frames

abbrev pub in_range : ℕ → Label → Bool
in_range c l = nat_lt l.hours 24 && (nat_lt l.minutes 60 && (nat_lt l.seconds 60 && nat_lt l.frames c))

abbrev pub left_out : Label → Bool
left_out l = nat_lt 0 (l.minutes % 10) && (l.seconds == 0 && nat_lt l.frames 2)

abbrev pub valid : Format → Label → Bool
valid f l = in_range (values f).rate l && not ((values f).drops && left_out l)

abbrev pub dropped_before : Format → ℕ → ℕ
dropped_before f t = if (values f).drops then 2 * (t - t / 10) else 0

abbrev pub label_number : Format → Label → Option ℕ
label_number f l = if valid f l then Some (nominal (values f).rate l - dropped_before f (minutes_in l)) else None

abbrev pub added_to : Format → ℕ → ℕ
added_to f n = if (values f).drops then 18 * (n / 17982) + 2 * ((n % 17982 - 2) / 1798) else 0

abbrev pub nominal_label : ℕ → ℕ → Label
nominal_label c n = record {
  hours = n / c / 3600;
  minutes = n / c / 60 % 60;
  seconds = n / c % 60;
  frames = n % c;
}

abbrev pub label_of : Format → ℕ → Label
label_of f n = nominal_label (values f).rate (n + added_to f n)

abbrev pub no_label : Label
no_label = record { hours = 255; minutes = 255; seconds = 255; frames = 255 }

abbrev pub label_parts : Label → List ℕ
label_parts l = l.hours ∷ (l.minutes ∷ (l.seconds ∷ (l.frames ∷ [])))

-- Bar lines of a table rise strictly from tick 0, and the bars begun before a tick are back of them.
--   first_counted  the first argument that reaches t is the count of those before t
--   table_pair     a table's bar lines and the bars begun before a tick are a pair
--   table_lines    the law of bar lines
--   table_ahead    no bar begins before the tick of its own number
-- Assumes nothing.
use Rattle.std.specs.Prelude.{◌≡◌, ℕ, ◌≤◌, Bool, nat_lt}
use Rattle.std.proofs.Common.{sym, ap, inl, inr, arith}
use Rattle.std.proofs.lemmas.Bool.{cases_lt, lt-ltb, le-ltb, ltb-true, ltb-false}
use Rattle.timebase.specs.Meaning.{tally}
use Rattle.timebase.specs.Tally.{Cut, Falls, tally_cut, tally_cuts}
use Rattle.layers.specs.Layers.{Pair, Ahead}
use Rattle.rows.proofs.Strict.{Strict, never_falls, stays_above}
use Rattle.meter.specs.BarLines.{FirstAt}
use Rattle.meter.specs.Tables.{rows_of, bar_tick, bars_to, Lines}
use Rattle.meter.specs.declared.table.MeterTable.{MeterTable}
use Rattle.meter.specs.Found.{lines_start, lines_rise, lines_follow}

abbrev begun : (ℕ → ℕ) → ℕ → ℕ
begun f t = tally (λ p. nat_lt (f p) t) t

pub first_counted : (f : ℕ → ℕ) → Strict f → (t r : ℕ) → FirstAt f t r → r ≡ begun f t
first_counted f up t r w =
    let test : ℕ → Bool = λ p. nat_lt (f p) t in
    let early : r ≤ t = elim (cases_lt t r) [ inl lt ↦ omega (arith, w.before t lt, stays_above f up t) | inr le ↦ le ] in
    let cut : Cut test r t =
    record {
      inside = early;
      passes = λ p h. lt-ltb (f p) t (w.before p h);
      fails = λ p h l. le-ltb (f p) t (omega (arith, never_falls f up r p h, w.reaches));
    } in
    sym (tally_cut test r t cut)

pub counted_first : (f : ℕ → ℕ) → Strict f → (t : ℕ) → FirstAt f t (begun f t)
counted_first f up t =
    let test : ℕ → Bool = λ p. nat_lt (f p) t in
    let falls : Falls test t =
    λ p q h l e. lt-ltb (f p) t (omega (arith, never_falls f up p q h, ltb-true (f q) t e)) in
    let cut : Cut test (begun f t) t = tally_cuts test t falls in
    let all : begun f t ≡ t → t ≤ f (begun f t) = λ e. omega (arith, ap f e, stays_above f up t) in
    record {
      reaches = elim (cases_lt (begun f t) t) [
        | inl lt ↦ ltb-false (f (begun f t)) t (cut.fails (begun f t) (omega arith) lt)
        | inr ge ↦ all (omega (arith, cut.inside))
      ];
      before = λ p h. ltb-true (f p) t (cut.passes p h);
    }

pub rising_pair : (f : ℕ → ℕ) → Strict f → Pair f (begun f)
rising_pair f up =
    record {
      reaches = λ s t h. elim (cases_lt t (begun f s)) [ inl lt ↦ omega (arith, (counted_first f up s).before t lt) | inr le ↦ le ];
      reached = λ s t h. omega (arith, never_falls f up (begun f s) t h, (counted_first f up s).reaches);
    }

pub table_rises : (m : MeterTable) → Strict (bar_tick m)
table_rises m p = lines_rise m.division (rows_of m) p m.lawful

pub table_pair : (m : MeterTable) → Pair (bar_tick m) (bars_to m)
table_pair m = rising_pair (bar_tick m) (table_rises m)

pub table_ahead : (m : MeterTable) → Ahead (bar_tick m)
table_ahead m = stays_above (bar_tick m) (table_rises m)

pub table_lines : (m : MeterTable) → Lines m
table_lines m =
    record {
      starts = lines_start m.division (rows_of m) m.lawful;
      follows = λ p. lines_follow m.division (rows_of m) p m.lawful;
      parted = λ p t. ((table_pair m).reaches t p, (table_pair m).reached t p);
    }

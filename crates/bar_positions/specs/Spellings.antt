-- Bar positions as text, `BAR.BEAT.TICK`: three decimals with no leading zeros, parted by full stops.
--   Held            the parts of a position fit their fields
--   position_text   the text of a position
--   front, after    what stands before the first full stop of a text, and what after it; nothing, where there is none
--   at_most         a number that was read, where it is no more than `most`
--   of_parts        the position of three parts that were read, where each was
--   parts_read      the position whose parts a text seems to have
--   own_or_none     a position, where it is there and this is its text, else one that is not valid
--   position_spelt  the position whose text this is, or one that is not valid
-- Assumes nothing.
use Rattle.std.specs.Prelude.{ℕ, ◌≤◌, cond, List, ◌∷◌, ◌++◌, Some, None, Option, ◌==◌, nat_le}
use Rattle.std.specs.List.{before_first, after_first}
use Rattle.std.specs.Str.{bytes_eq}
use Rattle.text.specs.Decimal.{digits, plain}
use Rattle.bar_positions.specs.BarPositions.{no_position}
use Rattle.bar_positions.specs.declared.position.BarPosition.{BarPosition}

pub record Held (v : BarPosition) : Type 0 where
  pub bar≤ : v.bar ≤ 65535
  pub beat≤ : v.beat ≤ 255
  pub tick≤ : v.tick ≤ 4294967295

-- 46 is the full stop
abbrev pub position_text : BarPosition → List ℕ
position_text v = digits v.bar ++ (46 ∷ digits v.beat ++ (46 ∷ digits v.tick))

abbrev pub front : List ℕ → List ℕ
front text = before_first (λ b. b == 46) text

abbrev pub after : List ℕ → List ℕ
after text = after_first (λ b. b == 46) text

abbrev pub at_most : ℕ → Option ℕ → Option ℕ
at_most most None = None
at_most most (Some n) = cond (nat_le n most) (Some n) None

abbrev pub of_parts : Option ℕ → Option ℕ → Option ℕ → Option BarPosition
of_parts (Some bar) (Some beat) (Some tick) = Some (record { bar = bar; beat = beat; tick = tick })
of_parts (Some bar) (Some beat) None = None
of_parts (Some bar) None tick = None
of_parts None beat tick = None

abbrev pub parts_read : List ℕ → Option BarPosition
parts_read text =
    of_parts (at_most 65535 (plain (front text))) (at_most 255 (plain (front (after text))))
    (at_most 4294967295 (plain (after (after text))))

abbrev pub own_or_none : List ℕ → Option BarPosition → BarPosition
own_or_none text (Some v) = cond (bytes_eq (position_text v) text) v no_position
own_or_none text None = no_position

abbrev pub position_spelt : List ℕ → BarPosition
position_spelt text = own_or_none text (parts_read text)

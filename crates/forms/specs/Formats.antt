-- The four label formats, each with its numbers.
--   values  what a format decides: frames a second, whether labels are dropped, labels a day, and the character between
--           seconds and frames
-- Assumes nothing.
use Rattle.std.specs.Prelude.{true, false}
use Rattle.forms.specs.declared.format.Format.{Format}
use Rattle.forms.specs.declared.format.FormatValues.{FormatValues}
use Rattle.forms.specs.declared.format.Format.TheVariants.{Film24, Pal25, Full30, Drop30}

-- 58 is a colon, 59 a semicolon
abbrev pub values : Format → FormatValues
values Film24 = record { rate = 24; drops = false; day = 2073600; separator = 58 }
values Pal25 = record { rate = 25; drops = false; day = 2160000; separator = 58 }
values Full30 = record { rate = 30; drops = false; day = 2592000; separator = 58 }
values Drop30 = record { rate = 30; drops = true; day = 2589408; separator = 59 }

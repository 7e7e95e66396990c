-- The frame rates, and how many frames a second of labels has at each.
--   row_of      the values of each rate
--   frames_of   the frames in as many seconds as seconds_of says
--   seconds_of  1 for a whole rate, 1001 for a rate slowed by a thousandth
--   labels_of   the label count c: frames of a label run from 0 to below it; 0 where fields carry no labels of their own
-- Assumes nothing.
use Rattle.std.specs.Prelude.{ℕ}
use Rattle.timebase.specs.declared.rates.FrameRate.{FrameRate}
use Rattle.timebase.specs.declared.rates.FrameRate.TheVariants.{Film23976, Film24, Pal25, Ntsc2997, Video30, Field5994}
use Rattle.timebase.specs.declared.rates.RateRow.{RateRow}

abbrev pub row_of : FrameRate → RateRow
row_of Film23976 = record { frames = 24000; seconds = 1001; labels = 24 }
row_of Film24 = record { frames = 24; seconds = 1; labels = 24 }
row_of Pal25 = record { frames = 25; seconds = 1; labels = 25 }
row_of Ntsc2997 = record { frames = 30000; seconds = 1001; labels = 30 }
row_of Video30 = record { frames = 30; seconds = 1; labels = 30 }
row_of Field5994 = record { frames = 60000; seconds = 1001; labels = 0 }

abbrev pub frames_of : FrameRate → ℕ
frames_of rate = (row_of rate).frames

abbrev pub seconds_of : FrameRate → ℕ
seconds_of rate = (row_of rate).seconds

abbrev pub labels_of : FrameRate → ℕ
labels_of rate = (row_of rate).labels

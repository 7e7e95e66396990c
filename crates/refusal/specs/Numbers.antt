-- The number of each refusal, as operators read it.
--   number_of      the number that a refusal is answered by
--   refused_text   the bytes that a refusal is printed as
-- Assumes nothing.
use Rattle.std.specs.Prelude.{ℕ, List, ◌++◌, codes}
use Rattle.std.specs.Fmt.{decimal}
use Rattle.refusal.specs.declared.Refusal.{Refusal}
use Rattle.refusal.specs.declared.Refusal.TheVariants.{ShortBuffer, BadMaking, TapsFall, RatioTooLong, NoPosition, NotWritten, NotBelowCount, CueOutOfRange, CueAlreadyIn, NoFreePlace, CueNotIn, HeadPastEnd, NoFreeLines, NoMemory}

abbrev pub number_of : Refusal → ℕ
-- a text does not fit the buffer that it is to be written into
number_of ShortBuffer = 6
-- a number handed to a base or a layer is out of its range, taps are too many, or a tempo map or meter table is
-- against its rules
number_of BadMaking = 14
-- taps fall, or pass the last sample
number_of TapsFall = 15
-- the last position of a ratio base would lie past the last sample
number_of RatioTooLong = 16
-- the position is not below the timebase's length
number_of NoPosition = 17
-- the value, or the text, is not a valid one of the written form
number_of NotWritten = 18
-- the number is not below the written form's count
number_of NotBelowCount = 19
-- a cue's number is not from 1 to 999,999
number_of CueOutOfRange = 20
-- the cue's number is already in the book
number_of CueAlreadyIn = 21
-- the book has no free place
number_of NoFreePlace = 22
-- the cue's number is not in the book
number_of CueNotIn = 23
-- the head would pass the sample after the last
number_of HeadPastEnd = 24
-- the log has fewer free lines than the play crosses cues
number_of NoFreeLines = 25
-- there is no memory for a base's own copy of its rows
number_of NoMemory = 40

-- the word `refused`, a space and the refusal's number
abbrev pub refused_text : Refusal → List ℕ
refused_text why = codes "refused " ++ decimal (number_of why)

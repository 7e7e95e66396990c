-- What a text writer holds, and what a call that appends a text does to it.
--   written       the text that a writer holds
--   fits_after    a text fits a buffer after so many bytes
--   has_room      so many bytes more fit a writer's buffer
--   said_after    the answer to a call that appends: done, or the buffer is too short
--   buffer_after  the whole buffer after the call: the text after what was filled, and nothing else touched
--   filled_after  how many bytes are filled after the call
--   Puts          what a step does that puts a text at the start of the buffer that it is lent, or says that it does not fit
--   Appends       what a call that appends does: all of it where the text fits, and else nothing
--   Refuses       a call that refuses, and changes nothing
--   Offered       a call that appends a text if it is a valid one, and else refuses it as not written
-- Assumes nothing.
use Rattle.std.specs.Prelude.{◌≡◌, ℕ, ◌+◌, Bool, true, false, cond, List, ◌++◌, length, take, drop, Ok, Err, Result, nat_le}
use Rattle.std.specs.Option.{ok_or}
use Rattle.refusal.specs.declared.Refusal.{Refusal}
use Rattle.refusal.specs.declared.Refusal.TheVariants.{ShortBuffer, NotWritten}
use Rattle.text.specs.Decimal.{room_for, put_at_start}
use Rattle.text.specs.declared.writer.TextWriter.{TextWriter}

abbrev pub written : TextWriter → List ℕ
written w = take w.len w.out.now

abbrev pub fits_after : List ℕ → ℕ → List ℕ → Bool
fits_after text len out = nat_le (len + length text) (length out)

abbrev pub has_room : ℕ → TextWriter → Bool
has_room count w = nat_le (w.len + count) (length w.out.now)

abbrev pub said_after : List ℕ → ℕ → List ℕ → Result (Unit {0}) Refusal
said_after text len out = cond (fits_after text len out) (Ok tt) (Err ShortBuffer)

abbrev pub buffer_after : List ℕ → ℕ → List ℕ → List ℕ
buffer_after text len out = cond (fits_after text len out) (take len out ++ (text ++ drop (len + length text) out)) out

abbrev pub filled_after : List ℕ → ℕ → List ℕ → ℕ
filled_after text len out = cond (fits_after text len out) (len + length text) len

pub record Puts (text out after : List ℕ) (r : Result ℕ Refusal) : Type 0 where
  pub said : r ≡ ok_or (room_for text out) ShortBuffer
  pub left : after ≡ put_at_start text out

pub record Appends (text : List ℕ) (from to : TextWriter) (r : Result (Unit {0}) Refusal) : Type 0 where
  pub said : r ≡ said_after text from.len from.out.now
  pub buffer : to.out.now ≡ buffer_after text from.len from.out.now
  pub filled : to.len ≡ filled_after text from.len from.out.now
  pub grown : written to ≡ cond (fits_after text from.len from.out.now) (written from ++ text) (written from)
  pub same : to.out.ghost_name ≡ from.out.ghost_name

pub record Refuses (why : Refusal) (from to : TextWriter) (r : Result (Unit {0}) Refusal) : Type 0 where
  pub said : r ≡ Err why
  pub buffer : to.out.now ≡ from.out.now
  pub filled : to.len ≡ from.len
  pub same : to.out.ghost_name ≡ from.out.ghost_name

pub record Offered (ok : Bool) (text : List ℕ) (from to : TextWriter) (r : Result (Unit {0}) Refusal) : Type 0 where
  pub taken : ok ≡ true → Appends text from to r
  pub refused : ok ≡ false → Refuses NotWritten from to r

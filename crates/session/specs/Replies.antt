-- What a request does to a deck, and how it is answered.
--   call_of     the call that a request makes, if it makes one; a text that writes no form stands for a value that is not valid
--   answer_of   the answer that tells what a call answered
--   told        the reply to a request that changes nothing
--   Carried     a request was carried out: its call was taken, or the deck stands as it was
-- Assumes nothing.
use Rattle.std.specs.Prelude.{◌≡◌, ℕ, List, ◌∷◌, Some, None, Ok, Err, Option, Result}
use Rattle.refusal.specs.declared.Refusal.{Refusal}
use Rattle.timebase.specs.Meaning.{Meaning, placed, located}
use Rattle.history.specs.declared.call.Call.{Call}
use Rattle.history.specs.declared.call.Call.TheVariants.{Add, Strike, Seek, Play}
use Rattle.history.specs.World.{World}
use Rattle.history.specs.Laws.{answer}
use Rattle.deck.specs.declared.state.Deck.{Deck}
use Rattle.deck.specs.Runs.{HasHad, Keeps, done}
use Rattle.operator.specs.declared.answer.Answer.{Answer}
use Rattle.operator.specs.declared.answer.Answer.TheVariants.{Done, Lines, Sample, Position}
use Rattle.operator.specs.declared.answer.Fault.{Fault}
use Rattle.operator.specs.declared.answer.Fault.TheVariants.{Unreadable, Refused}
use Rattle.operator.specs.Requests.{Said, adds, strikes, seeks, plays, places, locates, logs, nothing}
use Rattle.session.specs.declared.carry.Reply.{Reply}
use Rattle.session.specs.declared.carry.Reply.TheVariants as reply

abbrev pub call_of : {V : Type 0} → (List ℕ → V) → Said → Option (Call V)
call_of spelt (adds n text) = Some (Add n (spelt text))
call_of spelt (strikes n) = Some (Strike n)
call_of spelt (seeks s) = Some (Seek s)
call_of spelt (plays n) = Some (Play n)
call_of spelt (places p) = None
call_of spelt (locates s) = None
call_of spelt logs = None
call_of spelt nothing = None

abbrev pub done_answer : Result (Unit {0}) Refusal → Result Answer Fault
done_answer (Ok x) = Ok Done
done_answer (Err why) = Err (Refused why)

abbrev pub lines_answer : Result ℕ Refusal → Result Answer Fault
lines_answer (Ok n) = Ok (Lines n)
lines_answer (Err why) = Err (Refused why)

abbrev pub answer_of : {V : Type 0} → Call V → Result ℕ Refusal → Result Answer Fault
answer_of (Add n v) r = done_answer (done r)
answer_of (Strike n) r = done_answer (done r)
answer_of (Seek h) r = done_answer (done r)
answer_of (Play n) r = lines_answer r

abbrev pub placed_answer : Result ℕ Refusal → Result Answer Fault
placed_answer (Ok s) = Ok (Sample s)
placed_answer (Err why) = Err (Refused why)

abbrev pub answered : Result Answer Fault → Result Reply Fault
answered (Ok a) = Ok (reply.Answered a)
answered (Err why) = Err why

abbrev pub told : Meaning → Said → Result Reply Fault
told m (adds n text) = Err Unreadable
told m (strikes n) = Err Unreadable
told m (seeks s) = Err Unreadable
told m (plays n) = Err Unreadable
told m (places p) = answered (placed_answer (placed m p))
told m (locates s) = Ok (reply.Answered (Position (located m s)))
told m logs = Ok reply.Listing
told m nothing = Err Unreadable

module _ {C F L V W : Type 0} where
  pub record Called (w : World V W) (before after : Deck C F L V W) (call : Call V) (r : Result Reply Fault) : Type 0 where
    pub says : (calls : List (Call V)) → HasHad w calls before → r ≡ answered (answer_of call (answer w calls call))
    pub leaves : (calls : List (Call V)) → HasHad w calls before → HasHad w (call ∷ calls) after
    pub keeps : Keeps before after

  abbrev pub CarriedBy : Option (Call V) → World V W → Deck C F L V W → Deck C F L V W → Result Reply Fault → Result Reply Fault → Type 0
  CarriedBy (Some call) w before after unchanged r = Called w before after call r
  CarriedBy None w before after unchanged r = (after ≡ before) × (r ≡ unchanged)

  abbrev pub Carried : (List ℕ → V) → World V W → Deck C F L V W → Deck C F L V W → Said → Result Reply Fault → Type 0
  Carried spelt w before after s r = CarriedBy (call_of spelt s) w before after (told w.cues s) r

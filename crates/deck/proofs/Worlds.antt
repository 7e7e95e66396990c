-- Calls chain: what a call keeps of a deck is kept over two, and a deck of which it is kept reads calls as before.
--   keeps_trans   what is kept over one call and over the next is kept over both
--   same_world    two decks with the same piles, form and memory have one world
-- Assumes nothing.
use Rattle.std.proofs.Common.{◌≡◌, ℕ, Option, ap, ◌∙◌}
use Rattle.timebase.specs.Meaning.{Meaning}
use Rattle.written.specs.Current.{current_at}
use Rattle.book.specs.Held.{room, log_room}
use Rattle.deck.specs.declared.state.Deck.{Deck}
use Rattle.deck.specs.Runs.{world_of, Keeps}

module _ {C F L V W : Type 0} where
  pub keeps_trans : (d e f : Deck C F L V W) → Keeps d e → Keeps e f → Keeps d f
  keeps_trans d e f a b = record {
    piles = b.piles ∙ a.piles;
    forms = b.forms ∙ a.forms;
    frames = b.frames ∙ a.frames;
    places = b.places ∙ a.places;
    lines = b.lines ∙ a.lines;
  }

  pub same_world : (pile : C → Meaning) (number : F → V → Option ℕ) (frames : L → Meaning) (form : L → ℕ → Option W) (d e : Deck C F L V W) → Keeps d e
      → world_of pile number frames form e ≡ world_of pile number frames form d
  same_world pile number frames form d e k =
      ap (λ x. record { cues = pile x; number = number e.form; label = current_at (frames e.frames) (form e.frames); places = room e.book; lines = log_room e.log }) k.piles
      ∙ ap (λ x. record { cues = pile d.pile; number = number x; label = current_at (frames e.frames) (form e.frames); places = room e.book; lines = log_room e.log }) k.forms
      ∙ ap (λ x. record { cues = pile d.pile; number = number d.form; label = current_at (frames x) (form x); places = room e.book; lines = log_room e.log }) k.frames
      ∙ ap (λ n. record { cues = pile d.pile; number = number d.form; label = current_at (frames d.frames) (form d.frames); places = n; lines = log_room e.log }) k.places
      ∙ ap (λ n. record { cues = pile d.pile; number = number d.form; label = current_at (frames d.frames) (form d.frames); places = room d.book; lines = n }) k.lines

-- A list that leads to normal, in the making on a row: the row after the records so far stands for the state of the
-- model's draft. Cited by the contracts of pieces and drafting. Assumes nothing.
use Rattle.std.specs.Prelude.{◌≢◌, ◌≡◌, ℕ, ◌+◌, ◌≤◌, Result}
use Rattle.refusal.specs.declared.Refusal.{Refusal}
use Rattle.refusal.specs.Refusal.{answer}
use Rattle.model.specs.State.{Entry, entries, outline}
use Rattle.model.specs.Steps.{answer_of, step}
use Rattle.model.specs.Records.{Record, step_of}
use Rattle.refinement.specs.Refinement.{abs}
use Rattle.refinement.specs.Lent.{places_in, SameLent}
use Rattle.recovery.specs.Plan as P
use Rattle.orders.specs.Noted.{noted, SameList}
use Rattle.pieces.specs.declared.Sketch.{Sketch}

-- The record r was tried, in the places that were lent: the answer and what is left are the model's, and one that is
-- refused leaves row and places as they were.
pub record Tried (r : Record) (s : Sketch) (x : Result ℕ Refusal) (s' : Sketch) : Type 0 where
  pub refused : answer x ≢ 0 → (s'.row ≡ s.row) × (places_in s'.places ≡ places_in s.places)
  pub answer : answer x ≡ answer_of (outline (abs s.row (places_in s.places))) (step_of r)
  pub state : abs s'.row (places_in s'.places) ≡ step entries (abs s.row (places_in s.places)) (step_of r)
  pub orders : s'.orders ≡ s.orders
  pub sound : s'.sound ≡ s.sound
  pub same : SameLent s.places s'.places

-- The row, the places and the word `sound` are those of the model's draft m.
pub record Plays (m : P.Draft Entry) (s : Sketch) : Type 0 where
  pub state : abs s.row (places_in s.places) ≡ m.state
  pub sound : s.sound ≡ m.sound

-- So are the records that s has noted.
pub record Stands (m : P.Draft Entry) (s : Sketch) : Type 0 where
  pub plays : Plays m s
  pub records : noted s.orders ≡ m.records

-- What a piece of a list, f, makes of a list in the making: at most k orders more, in the places and the list that were
-- lent, and whatever draft of the model it stood for, it stands for f of it now.
pub record Moves (k : ℕ) (f : P.Draft Entry → P.Draft Entry) (s s' : Sketch) : Type 0 where
  pub few : s'.orders.count ≤ s.orders.count + k
  pub stands : (m : P.Draft Entry) → Stands m s → Stands (f m) s'
  pub same : SameLent s.places s'.places
  pub list : SameList s.orders s'.orders

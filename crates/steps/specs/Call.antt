-- What a call promises: its answer, who is behind it, the row it returns and every place of what it was lent. Cited by
-- the contracts of steps and hub's claim. Assumes nothing.
use Rattle.std.specs.Prelude.{cond, ◌&&◌, ◌≢◌, ◌≡◌}
use Rattle.model.specs.Members.{none}
use Rattle.model.specs.State.{outline, entries}
use Rattle.model.specs.Steps.{Step, accepted, answer_of, behind, step}
use Rattle.cluster.specs.declared.Cluster.{Cluster}
use Rattle.cluster.specs.Ended.{Outcome}
use Rattle.cluster.specs.Layout.{bits, outline_of}
use Rattle.refinement.specs.Refinement.{Places, abs, places_after}
pub use Rattle.shown.specs.Shown.{valid}

-- A call of the step st with a row and the lent places p: it returns x and leaves the places p'.
pub record Did (st : Step) (row : Cluster) (p : Places) (x : Outcome) (p' : Places) : Type 0 where
  -- Refusal 1 first, then the model's answer.
  pub answer : x.answer ≡ cond (valid row p) (answer_of (outline_of row) st) 1
  -- "The set of all members that qualify", on acceptance; else the empty one. It fixes the mask (`MasksFixed`).
  pub behind : bits x.behind ≡ cond (valid row p) (behind (outline_of row) st) none
  -- The state then is the model's step of the state before.
  pub state : abs x.row p' ≡ cond (valid row p) (step entries (abs row p) st) (abs row p)
  -- An outline fixes its row (`RowsFixed`), so this is the whole row.
  pub outlined : outline_of x.row ≡ cond (valid row p) (outline (step entries (abs row p) st)) (outline_of row)
  -- Every lent place, accepted and refused.
  pub places : p' ≡ cond (valid row p && accepted (outline_of row) st) (places_after st row p) p
  -- A refused call returns the row itself.
  pub refused : x.answer ≢ 0 → x.row ≡ row

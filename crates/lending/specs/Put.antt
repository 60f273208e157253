-- What a step over the lent controller, put back, promises of the row. Cited by the contracts of lending.
-- Assumes nothing.
use Rattle.std.specs.Prelude.{true, ◌≡◌, ℕ, Result}
use Rattle.refusal.specs.declared.Refusal.{Refusal}
use Rattle.model.specs.Steps.{Step}
use Rattle.cluster.specs.declared.Cluster.{Cluster}
use Rattle.cluster.specs.declared.Controller.{Controller}
use Rattle.cluster.specs.Ended.{Outcome}
use Rattle.refinement.specs.Refinement.{Places}
use Rattle.steps.specs.Call.{valid}
use Rattle.hub.specs.Replies.{Returned, reply}
use Rattle.hub.specs.Whole.{put_back, Link}

-- A call's result and the controller that it left.
abbrev pub taken : Result ℕ Refusal → Controller → Returned
taken x c = record { reply = reply x; controller = c }

-- The row with the controller that a call left, and the call's reply.
abbrev pub put_to : Cluster → Returned → Outcome
put_to row t = record { answer = t.reply.answer; behind = t.reply.behind; row = put_back row t.controller }

-- The step is one link of a list that mixes calls by value and over the lent controller. Demand 3 holds for such lists
-- (`hub::claim`).
abbrev pub IsLink : Step → Cluster → Outcome → Type 0
IsLink st row x = (p : Places) → valid row p ≡ true
    → Link st (record { row = row; places = p }) (record { row = x.row; places = p }) x.answer x.behind

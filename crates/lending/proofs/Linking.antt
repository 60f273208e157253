-- A call over the lent controller, put back, is one link of a list of calls. Assumes nothing.
use mathlib.Core.Bool.{true}
use mathlib.Core.Path.{◌≡◌}
use Prim.Native.Nat.{ℕ, ◌≤◌}
use Rattle.std.specs.Result.{IfOk, MatchResult, result_unwrap_or}
use Rattle.std.specs.Prelude.{Result, Ok, Err, false}
use Rattle.refusal.specs.declared.Refusal.{Refusal}
use Rattle.members.specs.declared.Board.{Board}
use Rattle.model.specs.Members.{is_replica}
use Rattle.members.proofs.Laws.{replica}
use Rattle.cluster.specs.declared.Cluster.{Cluster}
use Rattle.refinement.specs.Refinement.{Places, Shape}
use Rattle.steps.specs.Call.{valid}
use Rattle.steps.specs.Calls.{Held}
use Rattle.shown.proofs.Valid.{ready, valid-range}
use Rattle.hub.specs.Whole.{TellsOfLeader}

abbrev pub held : Cluster → Places → Held
held row p = record { row = row; places = p }

-- The board of a number, if that is one.
pub the-leader : {n : ℕ} (x : Result Board Refusal) (d : Board) → IfOk x (λ b. b.number ≡ n)
    → MatchResult x (λ _. is_replica n ≡ true) (λ _. is_replica n ≡ false) → is_replica n ≡ true
    → (result_unwrap_or x d).number ≡ n
the-leader (Ok b) d same t r = same
the-leader (Err e) d same t r = absurd (cc)

-- A board that is the controller's leader if that is one. At stage leader it is: refusal 1 sees to it.
pub tells-leader : (row : Cluster) (p : Places) → Shape row → valid row p ≡ true → (b : ℕ) → 1 ≤ b → b ≤ 8
    → (is_replica row.controller.view.leader ≡ true → b ≡ row.controller.view.leader) → TellsOfLeader row b
tells-leader row p shape v b h k e = (replica b h k, λ s. e ((ready row shape (valid-range row p v)).reads s))

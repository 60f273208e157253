-- A record of a sheet as five numbers, when it is well formed, and the step that it stands for.
-- Cited by Runs, Trials, the promise of `records`, and the contracts that speak of records. Assumes nothing.
use Rattle.std.specs.Prelude.{Bool, cond, not, ◌&&◌, ◌||◌, List, [], ◌∷◌, ◌≢◌, ◌≡◌, ℕ, leb, eqb, get_or}
use Rattle.model.specs.Members.{is_replica}
use Rattle.model.specs.State.{Outline, Opening, opening_with}
use Rattle.model.specs.Steps.{Step, append, commit, add, remove, change_leader, refresh, join, receive, acknowledge, refresh_controller, read_leader, read, set_normal, hear, install, malformed, answer_of}

-- "Byte 0 is the step, 0 to 15; byte 1 the board (a in step 9); byte 2 is b in step 9; byte 3 zero;
-- bytes 4 to 7 the value."
pub record Record : Type 0 where
  pub step : ℕ
  pub board : ℕ
  pub other : ℕ
  pub spare : ℕ
  pub value : ℕ

-- Records, by the number of their step: of no board, of a board, of two boards, of a board and a value.
abbrev pub bare : ℕ → Record
bare n = record { step = n; board = 0; other = 0; spare = 0; value = 0 }

abbrev pub of : ℕ → ℕ → Record
of n b = record { step = n; board = b; other = 0; spare = 0; value = 0 }

abbrev pub of_both : ℕ → ℕ → ℕ → Record
of_both n a b = record { step = n; board = a; other = b; spare = 0; value = 0 }

abbrev pub of_value : ℕ → ℕ → ℕ → Record
of_value n b v = record { step = n; board = b; other = 0; spare = 0; value = v }

-- The steps that name no board: change leader, the controller's news, read leader, set normal.
abbrev pub boardless : ℕ → Bool
boardless n = eqb n 5 || eqb n 10 || eqb n 11 || eqb n 13

-- A well-formed record, an opening too: no "field outside its values", no "a equal to b in step 9", and "unused fields
-- are zero". (That a value has 32 bits is the type of the calls.)
abbrev pub well_formed : Record → Bool
well_formed r =
    leb r.step 15
    && cond (boardless r.step) (eqb r.board 0) (is_replica r.board)
    && cond (eqb r.step 9) (is_replica r.other && not (eqb r.board r.other)) (eqb r.other 0)
    && eqb r.spare 0
    && (eqb r.step 1 || eqb r.value 0)

-- A valid opening: "step 0, opening, stands first", with its unused fields zero.
abbrev pub is_opening : Record → Bool
is_opening r = eqb r.step 0 && is_replica r.board && eqb r.other 0 && eqb r.spare 0 && eqb r.value 0

abbrev pub opening_of : Record → Opening
opening_of r = opening_with r.board

-- "Unused fields are zero": the step st, or what is no step.
abbrev pub unused : List ℕ → Step → Step
unused [] st = st
unused (n ∷ ns) st = cond (eqb n 0) (unused ns st) malformed

-- The rules, by the fields that a step uses.
abbrev pub uses_nothing : Record → Step → Step
uses_nothing r st = unused (r.board ∷ r.other ∷ r.spare ∷ r.value ∷ []) st

abbrev pub uses_board : Record → (ℕ → Step) → Step
uses_board r st = unused (r.other ∷ r.spare ∷ r.value ∷ []) (st r.board)

abbrev pub uses_boards : Record → (ℕ → ℕ → Step) → Step
uses_boards r st = unused (r.spare ∷ r.value ∷ []) (st r.board r.other)

abbrev pub uses_value : Record → (ℕ → ℕ → Step) → Step
uses_value r st = unused (r.other ∷ r.spare ∷ []) (st r.board r.value)

-- The rules by number, from 0 on. Step 0 stands first in a sheet and nowhere else.
-- Boards outside 1 to 8, and a equal to b, are refused by the steps' first checks.
abbrev pub rules : Record → List Step
rules r =
    malformed
    ∷ uses_value r append
    ∷ uses_board r commit
    ∷ uses_board r add
    ∷ uses_board r remove
    ∷ uses_nothing r change_leader
    ∷ uses_board r refresh
    ∷ uses_board r join
    ∷ uses_board r receive
    ∷ uses_boards r acknowledge
    ∷ uses_nothing r refresh_controller
    ∷ uses_nothing r read_leader
    ∷ uses_board r read
    ∷ uses_nothing r set_normal
    ∷ uses_board r hear
    ∷ uses_board r install
    ∷ []

-- The step of a record: the rule at its number. Above 15 is no step.
abbrev pub step_of : Record → Step
step_of r = get_or (rules r) r.step malformed

-- Refusal 1 of a record's fields is just that: the step's checks do not answer 1, whatever they look at. (A row that
-- refusal 1 turns away answers 1 to every record: `valid`, crate shown.)
-- Step 0 stands for no step; it is well formed where it is a valid opening.
pub record Forms : Type 0 where
  pub steps : (m : Outline) (r : Record) → r.step ≢ 0 → well_formed r ≡ not (eqb (answer_of m (step_of r)) 1)
  pub openings : (r : Record) → r.step ≡ 0 → well_formed r ≡ is_opening r

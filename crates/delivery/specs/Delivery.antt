-- A list that leads to normal, given out in a slice (document 02, Paper 10). Cited by the contracts of delivery,
-- drafting, planning and guiding. Assumes nothing.
use Rattle.std.specs.Prelude.{Bool, cond, ◌&&◌, List, ◌≡◌, ℕ, leb, length}
use Rattle.model.specs.Records.{Record}
use Rattle.text.specs.Text.{Text, over}
use Rattle.records.specs.Bytes.{sheet_bytes}
use Rattle.recovery.specs.Plan.{Plan, found, error}
use Rattle.delivery.specs.Planned.{Planned}

-- A whole draft as a list: error 20 where something was met that is it, or "there are more than 2,064".
abbrev pub delivered : Bool → List Record → Plan
delivered sound records = cond (sound && leb (length records) 2064) (found records) error

-- "The list slice holds 16,512 bytes, else 3": 2,064 records of 8 bytes, whatever the list.
abbrev pub enough : Text → Bool
enough out = leb 16512 (length out)

-- What a list answers: 0, or error 20.
abbrev pub plan_answer : Plan → ℕ
plan_answer (found list) = 0
plan_answer error = 20

-- "The records that lead to normal, and their number."
abbrev pub plan_count : Plan → ℕ
plan_count (found list) = length list
plan_count error = 0

-- What it leaves in a slice that has the room: its records, byte for byte, from the first place on; "a refusal leaves it
-- untouched".
abbrev pub plan_left : Plan → Text → Text
plan_left (found list) out = over out 0 (sheet_bytes list)
plan_left error out = out

-- The list q was given out: the answer and the number of x, and all that the slice holds then.
pub record Gives (q : Plan) (out : Text) (x : Planned) (out' : Text) : Type 0 where
  pub answer : x.answer ≡ plan_answer q
  pub count : x.count ≡ plan_count q
  pub left : out' ≡ plan_left q out

-- Single lines of a listing of document 01, byte for byte, with the fourth field of document 02, Paper 6; of a board's
-- mark only its two words, of the receipts' line a single receipt. Cited by the promises of the writers of lines and,
-- through `listing`, of `run_sheet`; its words also by seedline. Assumes nothing.
use Rattle.std.specs.Prelude.{Bool, cond, ◌&&◌, ◌||◌, [], ◌∷◌, ◌++◌, ℕ, ◌+◌, eqb}
use Prim.Native.Char.{code}
use Prim.Native.String.{String}
use Rattle.model.specs.Members.{Members}
use Rattle.model.specs.State as M
use Rattle.model.specs.State.{Entry, View}
use Rattle.text.specs.Text.{Text, digits}

-- Texts

abbrev pub word : String → Text
word String.[] = []
word (String.◌∷◌ c s) = code c ∷ word s

abbrev pub space : Text
space = 32 ∷ []

-- "Each line ends in byte 10."
abbrev pub newline : Text
newline = 10 ∷ []

-- The texts of 1 to 8, one after the other.
abbrev pub eight : (ℕ → Text) → Text
eight text = text 1 ++ (text 2 ++ (text 3 ++ (text 4 ++ (text 5 ++ (text 6 ++ (text 7 ++ text 8))))))

-- The digit of b, if b is a member.
abbrev pub member_text : Members → ℕ → Text
member_text m b = cond (m b) ((48 + b) ∷ []) []

-- "members as digits"
unfoldable pub members_text : Members → Text
members_text m = eight (member_text m)

-- "epoch, leader epoch, leader, members as digits"
unfoldable pub view_text : View → Text
unfolding digits members_text
view_text v =
    digits v.epoch ++ (space
    ++ (digits v.term ++ (space
    ++ (digits v.leader ++ (space
    ++ members_text v.members)))))

abbrev pub status_word : M.Status → Text
status_word M.normal = word "normal"
status_word M.waiting = word "waiting"
status_word M.Status.choosing = word "choosing"

abbrev pub stage_word : M.Stage → Text
stage_word M.idle = word "idle"
stage_word M.Stage.leader = word "leader"
stage_word M.boards = word "boards"
stage_word M.Stage.choosing = word "choosing"

-- Lines

-- "On acceptance of steps 2, 13 and 15 the listing line gains a fourth field" (document 02, Paper 6): the line of step
-- n with answer a has one.
abbrev pub has_fourth : ℕ → ℕ → Bool
has_fourth n a = eqb a 0 && (eqb n 2 || (eqb n 13 || eqb n 15))

-- That field, "with that set as digits": the set q behind the step, and the space before it.
unfoldable pub fourth_field : ℕ → ℕ → Members → Text
unfolding members_text
fourth_field n a q = cond (has_fourth n a) (space ++ members_text q) []

-- "record, step (byte 0 as it is), answer (0 accepted)", and the fourth field where there is one.
unfoldable pub answer_line : ℕ → ℕ → ℕ → Members → Text
unfolding digits fourth_field
answer_line k n a q = digits k ++ (space ++ (digits n ++ (space ++ (digits a ++ (fourth_field n a q ++ newline)))))

unfoldable pub registry_line : M.Registry → Text
unfolding view_text
registry_line r = word "registry " ++ (view_text r.view ++ (space ++ (status_word r.status ++ newline)))

unfoldable pub control_line : M.Controller → Text
unfolding view_text
control_line c = word "control " ++ (view_text c.view ++ (space ++ (stage_word c.stage ++ newline)))

-- The mark of a board: the word `late` or `current`. Which of them: crate `mark`.
abbrev pub late_word : Bool → Text
late_word late = cond late (word "late") (word "current")

-- "number, those four, joined, length", and that word: board b with its view, its joined epoch and its log's length.
unfoldable pub board_text : ℕ → View → ℕ → ℕ → Bool → Text
unfolding digits view_text
board_text b v joined len late =
    word "board " ++ (digits b ++ (space
    ++ (view_text v ++ (space
    ++ (digits joined ++ (space
    ++ (digits len ++ (space
    ++ (late_word late ++ newline)))))))))

-- A receipt: "value, `@`, epoch, as in `41@1`" (document 02, Paper 4).
unfoldable pub receipt_text : Entry → Text
unfolding digits
receipt_text x = digits x.value ++ (word "@" ++ digits x.term)

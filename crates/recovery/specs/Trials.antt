-- The lists of a few rows, each worked out by hand from document 02, Paper 10, and the rules of document 01. Cited by
-- the promise of `recovery::trials`. Assumes nothing.
use Rattle.std.specs.Prelude.{Bool, true, false, ◌&&◌, ◌||◌, List, [], ◌∷◌, ◌++◌, ℕ, T, eqb, replicate}
use Rattle.model.specs.Prelude.{upd}
use Rattle.model.specs.Members.{Members, none, only}
use Rattle.model.specs.State.{Entry, entry, entries, View, RowState, Status, waiting, Stage, boards, zeros, opening_with, opened}
use Rattle.model.specs.Steps.{deaf, with_registry, with_controller, with_view, with_log}
use Rattle.model.specs.Records.{Record, bare, of, of_value}
use Rattle.model.specs.Runs.{steps_of, answers}
use Rattle.model.specs.Claim.{after}
use Rattle.model.specs.Trials.{same_by}
use Rattle.recovery.specs.Plan.{Plan, found, error, plan}
use Rattle.recovery.specs.Claim.{all_zero}

-- Two records are the same in every field.
abbrev same_record : Record → Record → Bool
same_record x y =
    eqb x.step y.step && eqb x.board y.board && eqb x.other y.other && eqb x.spare y.spare
    && eqb x.value y.value

abbrev same_plan : Plan → Plan → Bool
same_plan (found xs) (found ys) = same_by same_record xs ys
same_plan (found xs) error = false
same_plan error (found ys) = false
same_plan error error = true

-- An entry of the table: a state with its list, or the error.
pub data Trial : Type 0 where
  -- opened with b, the records, all accepted
  running : (b : ℕ) → List Record → Plan → Trial
  -- as it stands
  standing : RowState → Plan → Trial

unfoldable pub holds : Trial → Bool
holds (running b rs p) =
    let o = opening_with b in
    all_zero (answers entries (opened o) (steps_of rs)) && same_plan (plan entries (after entries o (steps_of rs))) p
holds (standing s p) = same_plan (plan entries s) p

unfoldable pub all_hold : List Trial → Bool
all_hold [] = true
all_hold (t ∷ ts) = holds t && all_hold ts

-- Members 1, 2 and 3, leader 1, normal: registry and controller at epoch 5, the boards at 4, logs empty.
abbrev three : List Record
three =
    of 3 2 ∷ bare 10 ∷ of 6 1 ∷ bare 11 ∷ of 6 2 ∷ of 12 2 ∷ bare 13
    ∷ of 3 3 ∷ bare 10 ∷ of 6 1 ∷ bare 11 ∷ of 6 2 ∷ of 6 3 ∷ of 12 2 ∷ bare 13 ∷ []

-- Members 1 to 4, leader 1, which has been read: registry, controller and leader at epoch 4.
abbrev four : List Record
four = of 3 2 ∷ of 3 3 ∷ of 3 4 ∷ bare 10 ∷ of 6 1 ∷ bare 11 ∷ []

-- All eight, leader 7, which has n entries under leader epoch 4. The others have none, and have yet to join.
abbrev eight : ℕ → List Record
eight n =
    (of 3 7 ∷ bare 10 ∷ of 6 8 ∷ bare 11 ∷ of 6 7 ∷ of 12 7 ∷ bare 13 ∷ bare 5 ∷ of 6 7 ∷ [])
    ++ (replicate n (of_value 1 7 9) ++ (of 3 1 ∷ of 3 2 ∷ of 3 3 ∷ of 3 4 ∷ of 3 5 ∷ of 3 6 ∷ of 3 8 ∷ []))

-- What b does to follow a leader that has n entries of which it has none.
abbrev catches_up : ℕ → ℕ → List Record
catches_up n b = of 6 b ∷ of 7 b ∷ (replicate n (of 8 b) ++ (of 12 b ∷ []))

-- What is held at epoch e of leader l and members m, under leader epoch 1.
abbrev seen : ℕ → ℕ → Members → View
seen e l m = record { epoch = e; term = 1; leader = l; members = m }

-- The boards a and b.
abbrev two : ℕ → ℕ → Members
two a b x = eqb x a || eqb x b

-- Some entries.
abbrev some : ℕ → List Entry
some n = replicate n (entry 9 1)

-- A row that no run gives: all as opened with board 1, but for the registry's epoch e, leader l, members m and status.
abbrev odd : ℕ → ℕ → Members → Status → RowState
odd e l m status = with_registry (opened (opening_with 1))
    (record { view = seen e l m; status = status })

abbrev pub table : List Trial
table =
    -- "none if normal"
    running 1 three (found [])
    -- waiting: board 2 has joined, so its join is left out
    ∷ running 1 (of_value 1 1 7 ∷ of 3 2 ∷ [])
    (found (bare 10 ∷ of 6 1 ∷ bare 11 ∷ of 6 2 ∷ of 8 2 ∷ of 12 2 ∷ bare 13 ∷ []))
    -- stage boards: controller and leader have the news, the leader was read; it has appended since
    ∷ running 1 (of_value 1 1 7 ∷ of 3 2 ∷ bare 10 ∷ of 6 1 ∷ bare 11 ∷ of_value 1 1 8 ∷ [])
    (found (of 6 2 ∷ of 8 2 ∷ of 8 2 ∷ of 12 2 ∷ bare 13 ∷ []))
    -- "heard before or not": 3 and 4 were heard, which is a majority with 1; the lowest-numbered are 2 and 3
    ∷ running 1 (four ++ (of 12 4 ∷ of 12 3 ∷ [])) (found (of 6 2 ∷ of 12 2 ∷ of 6 3 ∷ bare 13 ∷ []))
    -- choosing: 2 and 3 are the lowest-numbered majority of 2, 3 and 4, and tie; 4 alone has received an entry
    ∷ running 1 (four ++ (of 12 2 ∷ of 12 3 ∷ bare 13 ∷ of 6 4 ∷ of_value 1 1 7 ∷ of 8 4 ∷ bare 5 ∷ []))
    (found (
    bare 10 ∷ of 6 2 ∷ of 14 2 ∷ of 6 3 ∷ of 14 3 ∷ of 15 2
    ∷ of 6 2 ∷ bare 11 ∷ of 6 3 ∷ of 7 3 ∷ of 12 3 ∷ bare 13 ∷ []
    ))
    -- choosing: 3, which has received an entry and was heard, ranks above 2
    ∷ running 1 (three ++ (of_value 1 1 7 ∷ of 8 3 ∷ bare 5 ∷ bare 10 ∷ of 6 3 ∷ of 14 3 ∷ []))
    (found (
    of 6 2 ∷ of 14 2 ∷ of 15 3 ∷ of 6 3 ∷ bare 11 ∷ of 6 2 ∷ of 7 2 ∷ of 8 2 ∷ of 12 2 ∷ bare 13 ∷ []
    ))
    -- as the longest list, with 20 entries in place of 512: 4 + 4 * (3 + 20) records
    ∷ running 8 (eight 20)
    (found (
    (bare 10 ∷ of 6 7 ∷ bare 11 ∷ [])
    ++ (catches_up 20 1 ++ (catches_up 20 2 ++ (catches_up 20 3 ++ (catches_up 20 4 ++ (bare 13 ∷ [])))))
    ))
    -- "the leader is no member", or there is "no leader .. to name"
    ∷ standing (odd 2 2 (only 1) waiting) error
    ∷ standing (odd 2 0 (only 1) waiting) error
    -- the same, where 1 and 2 follow 3, which is none of them, and were heard: set normal alone would be accepted
    ∷ standing
    (with_controller
    (with_view (with_view (odd 2 3 (two 1 2) waiting) 1 (seen 2 3 (two 1 2))) 3 (seen 2 3 (two 1 2)))
    (record { view = seen 2 3 (two 1 2); stage = boards; heard = upd (upd zeros 1 1) 2 1; heard_joined = zeros })) error
    -- "no .. member to name"
    ∷ standing (odd 2 0 none Status.choosing) error
    -- "a board, it included, has another leader in its view after its news": 1, up to date, has 3
    ∷ standing
    (with_view (odd 2 1 (only 1) waiting) 1 (seen 2 3 (only 1))) error
    -- and so has board 2: all its records would be accepted
    ∷ standing (with_view (odd 2 1 (two 1 2) waiting) 2 (seen 2 3 (two 1 2))) error
    -- "some record of the list would be refused": the reading of 2, which the controller does not have for a member
    ∷ standing (with_controller (odd 2 1 (λ x. two 1 2 x || eqb x 3) waiting) (deaf (seen 2 1 (two 1 3)) Stage.leader)) error
    -- the join of 2, which is no member in its own view: it is not refused 11
    ∷ standing (with_view (odd 2 1 (two 1 2) waiting) 2 (seen 2 1 (only 1))) error
    -- set normal at the last epoch, and not at the one before
    ∷ standing (odd 4000 1 (only 1) waiting) error
    ∷ standing (odd 3999 1 (only 1) waiting) (found (bare 10 ∷ of 6 1 ∷ bare 11 ∷ bare 13 ∷ []))
    -- choosing takes two epochs
    ∷ standing (odd 3999 0 (only 1) Status.choosing) error
    ∷ standing (odd 3998 0 (only 1) Status.choosing)
    (found (bare 10 ∷ of 6 1 ∷ of 14 1 ∷ of 15 1 ∷ of 6 1 ∷ bare 11 ∷ bare 13 ∷ []))
    -- a board longer than the leader receives nothing
    ∷ standing (with_log (with_log (odd 2 1 (two 1 2) waiting) 1 (some 1)) 2 (some 2))
    (found (bare 10 ∷ of 6 1 ∷ bare 11 ∷ of 6 2 ∷ of 12 2 ∷ bare 13 ∷ []))
    -- choosing: 3 has the longer log, 4 the later joined epoch, and ranks above it; joining, 3 loses its two entries
    ∷ running 1 (four ++ (
    of 12 2 ∷ of 12 3 ∷ bare 13 ∷ of 6 3 ∷ of_value 1 1 7 ∷ of_value 1 1 8 ∷ of 8 3 ∷ of 8 3
    ∷ bare 5 ∷ bare 10 ∷ of 6 2 ∷ of 14 2 ∷ of 6 4 ∷ of 14 4 ∷ of 15 2
    ∷ of 6 2 ∷ bare 11 ∷ of 6 4 ∷ of 7 4 ∷ of 12 4 ∷ bare 13 ∷ bare 5 ∷ []
    ))
    (found (
    bare 10 ∷ of 6 3 ∷ of 14 3 ∷ of 6 4 ∷ of 14 4 ∷ of 15 4
    ∷ of 6 4 ∷ bare 11 ∷ of 6 3 ∷ of 7 3 ∷ of 12 3 ∷ bare 13 ∷ []
    ))
    ∷ []

unfoldable pub TrialsHold : Type 0
TrialsHold = T (all_hold table)

-- The trials of document 01 marked P as one table, and the others, two of them of document 02. What P2 says of a sheet
-- stands in the crate `sheet`, the two long ones in `limits`. Cited by the promise of `trials`. Assumes nothing.
use Rattle.std.specs.Prelude.{Bool, true, false, ◌&&◌, List, [], ◌∷◌, ◌++◌, ℕ, zero, suc, T, eqb, length, replicate}
use Rattle.model.specs.Members.{size, quorum}
use Rattle.model.specs.State.{Entry, entry, same_entry, entries, RowState, opening_with, can_open, opened, open_answer, is_normal}
use Rattle.model.specs.Records.{Record, bare, of, of_both, of_value}
use Rattle.model.specs.Runs.{steps_of, run, answers}

-- Two lists are the same, by a test of their elements.
abbrev pub same_by : {A : Type 0} → (A → A → Bool) → List A → List A → Bool
same_by same [] [] = true
same_by same [] (y ∷ ys) = false
same_by same (x ∷ xs) [] = false
same_by same (x ∷ xs) (y ∷ ys) = same x y && same_by same xs ys

abbrev pub same_list : List ℕ → List ℕ → Bool
same_list = same_by eqb

abbrev pub same_entries : List Entry → List Entry → Bool
same_entries = same_by same_entry

-- A row of the table.
pub data Trial : Type 0 where
  -- the majority of n boards
  majority : (n is : ℕ) → Trial
  -- the opening call's answer
  opening : (b answer : ℕ) → Trial
  -- opened with b: the records, their answers, and what is seen of the state then
  running : (b : ℕ) → List Record → List ℕ → (RowState → Bool) → Trial

unfoldable pub holds : Trial → Bool
unfolding run answers
holds (majority n is) = eqb (quorum n) is
holds (opening b answer) = eqb (open_answer (opening_with b)) answer
holds (running b rs ns seen) =
    let o = opening_with b in
    can_open o && same_list (answers entries (opened o) (steps_of rs)) ns && seen (run entries (opened o) (steps_of rs))

unfoldable pub all_hold : List Trial → Bool
unfolding holds
all_hold [] = true
all_hold (t ∷ ts) = holds t && all_hold ts

-- Nothing is said of the state.
abbrev unseen : RowState → Bool
unseen s = true

-- P7's records, which P8 and P9 go on from: add 2; change; read leader; controller news; read leader; board 1 news;
-- read leader.
abbrev p7 : List Record
p7 = of 3 2 ∷ bare 5 ∷ bare 11 ∷ bare 10 ∷ bare 11 ∷ of 6 1 ∷ bare 11 ∷ []

abbrev p7answers : List ℕ
p7answers = 0 ∷ 4 ∷ 15 ∷ 0 ∷ 16 ∷ 0 ∷ 0 ∷ []

-- P8: set normal; read 2; set normal.
abbrev p8 : List Record
p8 = p7 ++ (bare 13 ∷ of 12 2 ∷ bare 13 ∷ [])

abbrev p8answers : List ℕ
p8answers = p7answers ++ (14 ∷ 0 ∷ 0 ∷ [])

-- "leader 2, members 2, epoch and leader epoch 4, normal"
abbrev p9seen : RowState → Bool
p9seen s =
    eqb s.registry.view.leader 2 && eqb (size s.registry.view.members) 1 && s.registry.view.members 2
    && eqb s.registry.view.epoch 4 && eqb s.registry.view.term 4 && is_normal s.registry.status

abbrev pub table : List Trial
table =
    -- P1
    majority 1 1 ∷ majority 2 2 ∷ majority 3 2 ∷ majority 4 3 ∷ majority 5 3 ∷ majority 6 4 ∷ majority 7 4
    ∷ majority 8 5
    -- P2
    ∷ opening 0 1 ∷ opening 9 1 ∷ opening 8 0
    -- P3: receipt by 1; append 41; receipt
    ∷ running 1 (of 2 1 ∷ of_value 1 1 41 ∷ of 2 1 ∷ []) (12 ∷ 0 ∷ 0 ∷ []) unseen
    -- P4: append on 2
    ∷ running 1 (of_value 1 2 41 ∷ []) (8 ∷ []) unseen
    -- P5: change; remove 1; remove 2
    ∷ running 1 (bare 5 ∷ of 4 1 ∷ of 4 2 ∷ []) (6 ∷ 6 ∷ 5 ∷ []) unseen
    -- P6: add 2 twice
    ∷ running 1 (of 3 2 ∷ of 3 2 ∷ []) (0 ∷ 5 ∷ []) unseen
    -- P7
    ∷ running 1 p7 p7answers unseen
    -- P8: "epoch 3"
    ∷ running 1 p8 p8answers (λ s. eqb s.registry.view.epoch 3)
    -- P9: change
    ∷ running 1 (p8 ++ (bare 5 ∷ [])) (p8answers ++ (0 ∷ [])) p9seen
    ∷ []

-- "Members 1 to 4, leader 1, normal, news taken, logs empty."
abbrev four_ready : List Record
four_ready =
    of 3 2 ∷ of 3 3 ∷ of 3 4 ∷ bare 10 ∷ of 6 1 ∷ bare 11 ∷ of 12 2 ∷ of 12 3 ∷ bare 13
    ∷ of 6 1 ∷ of 6 2 ∷ of 6 3 ∷ of 6 4 ∷ []

abbrev in_four : RowState → Bool
in_four s =
    news 1 && news 2 && news 3 && news 4 && eqb s.registry.view.leader 1 && is_normal s.registry.status
    && eqb (size s.registry.view.members) 4 && s.registry.view.members 1 && s.registry.view.members 2
    && s.registry.view.members 3 && s.registry.view.members 4
  where
    news : ℕ → Bool
    news b = eqb (s.view b).epoch s.registry.view.epoch && eqb (length (s.log b)) 0

-- "Change; 2, 3 and the controller take news; 2 and 3 are heard; 2 is installed, takes news".
abbrev second_leads : List Record
second_leads = bare 5 ∷ of 6 2 ∷ of 6 3 ∷ bare 10 ∷ of 14 2 ∷ of 14 3 ∷ of 15 2 ∷ of 6 2 ∷ []

-- "1 appends 41, only 4 receives it", then that; 2 "appends 42. Board 4 takes news; 2 counting 4 gives 11; 4 joins and
-- its log is empty."
abbrev four : Trial
four = running 1
    (four_ready ++ ((of_value 1 1 41 ∷ of 8 4 ∷ []) ++ (second_leads
    ++ (of_value 1 2 42 ∷ of 6 4 ∷ of_both 9 2 4 ∷ of 7 4 ∷ []))))
    (replicate 25 0 ++ (11 ∷ 0 ∷ []))
    (λ s. eqb (length (s.log 4)) 0)

-- Document 02, Paper 4, worked out by hand: "Two tills sold the same item at the same price". 1 appends 40, which 2 and
-- 4 receive, then 41, which 4 alone receives. 2 leads, under leader epoch 7, and appends 41 too. 4 takes news and
-- joins: its own 41 is another sale, and its log is cut to 40.
abbrev two_sales : List Record
two_sales =
    four_ready ++ ((of_value 1 1 40 ∷ of 8 2 ∷ of 8 4 ∷ of_value 1 1 41 ∷ of 8 4 ∷ []) ++ (second_leads
    ++ (of_value 1 2 41 ∷ of 6 4 ∷ of 7 4 ∷ [])))

abbrev cut : Trial
cut = running 1 two_sales (replicate 29 0)
    (λ s. same_entries (s.log 4) (entry 40 1 ∷ [])
    && same_entries (s.log 1) (entry 40 1 ∷ entry 41 1 ∷ [])
    && same_entries (s.log 2) (entry 40 1 ∷ entry 41 7 ∷ []))

-- 4 receives the sale of 2 and is counted; two receipts are given; and 1, which was replaced, goes on selling.
abbrev resold : Trial
resold = running 1 (two_sales ++ (of 8 4 ∷ of_both 9 2 4 ∷ of 2 2 ∷ of 2 2 ∷ of_value 1 1 41 ∷ [])) (replicate 34 0)
    (λ s. same_entries (s.log 4) (entry 40 1 ∷ entry 41 7 ∷ [])
    && same_entries s.committed (entry 40 1 ∷ entry 41 7 ∷ [])
    && same_entries (s.log 1) (entry 40 1 ∷ entry 41 1 ∷ entry 41 1 ∷ []))

-- No trial of document 01, but its rules worked out by hand: every answer of steps 7 and 8.
abbrev follower : Trial
follower = running 1
    -- 1 leads: 9; 2 is not in its own members: 5
    (of 7 1 ∷ of 8 1 ∷ of 7 2 ∷ of 8 2
    -- add 2; news for 2: not in its leader's members, 5, and joined already, 11; news for 1: nothing to receive, 12
    ∷ of 3 2 ∷ of 6 2 ∷ of 8 2 ∷ of 7 2 ∷ of 6 1 ∷ of 8 2
    -- 1 appends, 2 receives; the row is set normal; 2 succeeds 1
    ∷ of_value 1 1 41 ∷ of 8 2 ∷ bare 10 ∷ bare 11 ∷ of 12 2 ∷ bare 13 ∷ bare 5
    -- add 1; news for 1: its leader has not taken it, 10; news for 2: not joined yet, 11; joins; joined already, 11;
    -- nothing to receive, 12
    ∷ of 3 1 ∷ of 6 1 ∷ of 7 1 ∷ of 8 1 ∷ of 6 2 ∷ of 8 1 ∷ of 7 1 ∷ of 7 1 ∷ of 8 1 ∷ [])
    (9 ∷ 9 ∷ 5 ∷ 5
    ∷ 0 ∷ 0 ∷ 5 ∷ 11 ∷ 0 ∷ 12
    ∷ 0 ∷ 0 ∷ 0 ∷ 0 ∷ 0 ∷ 0 ∷ 0
    ∷ 0 ∷ 0 ∷ 10 ∷ 10 ∷ 0 ∷ 11 ∷ 0 ∷ 11 ∷ 12 ∷ [])
    (λ s. eqb (s.joined 1) 4 && eqb (length (s.log 1)) 1)

-- While no leader is named there is none to follow: change; 2 takes news, joins, receives.
abbrev leaderless : Trial
leaderless = running 1 (four_ready ++ (bare 5 ∷ of 6 2 ∷ of 7 2 ∷ of 8 2 ∷ [])) (replicate 15 0 ++ (9 ∷ 9 ∷ [])) unseen

abbrev pub others : List Trial
others = running 1 four_ready (replicate 13 0) in_four ∷ four ∷ cut ∷ resold ∷ follower ∷ leaderless ∷ []

-- The P trials: one table, one statement.
unfoldable pub TrialsHold : Type 0
TrialsHold = T (all_hold table)

unfoldable pub OthersHold : Type 0
OthersHold = T (all_hold others)

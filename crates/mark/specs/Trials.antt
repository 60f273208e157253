-- Trials of the mark (document 02, Paper 1): the opening, P9 and on from it, and document 01's last trial. Cited by the
-- promise of `trials`. Assumes nothing.
use Rattle.std.specs.Prelude.{Bool, cond, List, [], ◌∷◌, ◌++◌, ℕ, T, replicate}
use Rattle.model.specs.State.{outline, RowState}
use Rattle.model.specs.Records.{Record, bare, of, of_value}
use Rattle.model.specs.Trials.{same_list, Trial, running, all_hold}
use Rattle.mark.specs.Mark.{late_in}

-- Of boards 1 to 8 these are current, the others late.
abbrev current_are : List ℕ → RowState → Bool
current_are bs s =
    same_list (pick 1 ++ (pick 2 ++ (pick 3 ++ (pick 4 ++ (pick 5 ++ (pick 6 ++ (pick 7 ++ pick 8))))))) bs
  where
    pick : ℕ → List ℕ
    pick b = cond (late_in (outline s) b) [] (b ∷ [])

-- P9 without its refused steps: add 2; controller news; board 1 news; read leader; read 2; set normal; change. 2 leads.
abbrev replaced : List Record
replaced = of 3 2 ∷ bare 10 ∷ of 6 1 ∷ bare 11 ∷ of 12 2 ∷ bare 13 ∷ bare 5 ∷ []

-- "Members 1 to 4, leader 1, normal, news taken", "1 appends 41, only 4 receives it. Change".
abbrev changed : List Record
changed =
    of 3 2 ∷ of 3 3 ∷ of 3 4 ∷ bare 10 ∷ of 6 1 ∷ bare 11 ∷ of 12 2 ∷ of 12 3 ∷ bare 13
    ∷ of 6 1 ∷ of 6 2 ∷ of 6 3 ∷ of 6 4 ∷ of_value 1 1 41 ∷ of 8 4 ∷ bare 5 ∷ []

-- "2, 3 and the controller take news; 2 and 3 are heard; 2 is installed, takes news, appends 42. Board 4 takes news".
abbrev took_news : List Record
took_news =
    changed ++ (of 6 2 ∷ of 6 3 ∷ bare 10 ∷ of 14 2 ∷ of 14 3 ∷ of 15 2 ∷ of 6 2 ∷ of_value 1 2 42 ∷ of 6 4 ∷ [])

abbrev table : List Trial
table =
    -- The opening: "every epoch, leader epoch and joined is 1".
    running 1 [] [] (current_are (1 ∷ 2 ∷ 3 ∷ 4 ∷ 5 ∷ 6 ∷ 7 ∷ 8 ∷ []))
    -- The new leader is late until its news; the one replaced is no member, cannot join, and stays late.
    ∷ running 1 replaced (replicate 7 0) (current_are [])
    ∷ running 1 (replaced ++ (of 6 1 ∷ of 6 2 ∷ of 7 1 ∷ [])) (replicate 9 0 ++ (5 ∷ [])) (current_are (2 ∷ []))
    -- While choosing the leader epoch is kept: who has joined and takes news is current, the leader that left too.
    ∷ running 1 (changed ++ (of 6 1 ∷ of 6 4 ∷ [])) (replicate 18 0) (current_are (1 ∷ 4 ∷ []))
    -- "The board had taken news and not yet joined": 4, with 41 in its log. Then it joins.
    ∷ running 1 took_news (replicate 25 0) (current_are (2 ∷ []))
    ∷ running 1 (took_news ++ (of 7 4 ∷ [])) (replicate 26 0) (current_are (2 ∷ 4 ∷ []))
    -- 5 is added: who has joined is late until its news.
    ∷ running 1 (took_news ++ (of 7 4 ∷ of 3 5 ∷ of 6 4 ∷ [])) (replicate 28 0) (current_are (4 ∷ []))
    ∷ []

unfoldable pub MarkTrialsHold : Type 0
unfolding all_hold
MarkTrialsHold = T (all_hold table)

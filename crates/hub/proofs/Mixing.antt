-- Calls of both kinds: after an opening each is a call by value, so they follow the model's run. Assumes nothing.
use mathlib.Core.List.{List}
use Prim.Native.Nat.{ℕ}
use Rattle.model.specs.State.{RowState, entries, opened}
use Rattle.model.specs.Steps.{Step, step}
use Rattle.model.specs.Claim.{after}
use Rattle.steps.specs.Calls.{Held, Called, Calls}
use Rattle.steps.proofs.Following.{Holds, Reached, fit, goes, takes-up, follow, opening, open-reached, follows}
use Rattle.hub.specs.Whole.{Link, by_value, news, read_leader, read, hear, Links, stop, link, resume, PutBack, LinksSafe}
use Rattle.hub.proofs.Putting.{put-back}

-- A row that a run reaches is one that refusal 1 lets through.
called : {s : RowState} {st : Step} {h h' : Held} {n q : ℕ} → Reached s → Holds s h → Link st h h' n q
    → Called st h h' n q
unfolding PutBack
called k m (by_value d) = d
called k m (news {h = h} {r = r} {c' = c'} shape l) = (put-back h.row h.places shape (fit k m)).news r c' l
called k m (read_leader {h = h} {b = b} {r = r} {c' = c'} shape t l) =
    (put-back h.row h.places shape (fit k m)).read_leader b r c' t l
called k m (read {h = h} {b = b} {r = r} {c' = c'} shape l) =
    (put-back h.row h.places shape (fit k m)).read b r c' l
called k m (hear {h = h} {b = b} {r = r} {c' = c'} shape l) =
    (put-back h.row h.places shape (fit k m)).hear b r c' l

calls : {h h' : Held} {sts : List Step} {ns qs : List ℕ} → Links h sts h' ns qs → (s : RowState) → Reached s
    → Holds s h → Calls h sts h' ns qs
calls stop s k m = Calls.stop
calls (link {st = st} l ls) s k m =
    let d = called k m l in
    let g = goes k m d in
    Calls.call d (calls ls (step entries s st) g.reached g.holds)
calls (resume t ls) s k m = Calls.resume t (calls ls s k (takes-up m t))

pub links-safe : LinksSafe
unfolding LinksSafe
links-safe o h start sts h' ns qs ls =
    let cs = calls ls (opened o) (open-reached o h start) (opening o h start) in
    let e = follow cs (opened o) (open-reached o h start) (opening o h start) in
    (follows o h start sts h' ns qs cs, λ more h'' ms ps ls'. calls ls' (after entries o sts) e.reached e.holds)

-- Lending the controller and putting it back is a call of the whole row, since both are the model's step of it. Assumes
-- nothing.
use mathlib.Core.Bool.{Bool, true, false, not, cond, ◌&&◌, ◌||◌}
use mathlib.Core.List.{[], ◌∷◌}
use mathlib.Core.Logic.{◌≢◌}
use mathlib.Core.Path.{◌≡◌, refl, sym, ap, subst, ◌∙◌}
use Prim.Native.Nat.{ℕ}
use lib.Dec.{T, leb, eqb}
use borrow.Author.Tests.{eqb-true, eq-eqb}
use Rattle.model.specs.Members.{is_replica, none}
use Rattle.model.specs.State.{RowState, Outline, outline, entries, stage_number}
use Rattle.model.specs.Steps as S
use Rattle.model.specs.Steps.{Step, nothing, writes, accepted, answer_of, qualified, behind, next, step}
use Rattle.model.specs.Ranges.{every, view_ranges, replica_ranges, leader_named, controller_leader_named, ranges, in_range}
use Rattle.model.proofs.Tests.{same-choice, of-true, is_true}
use Rattle.model.proofs.Range.{AllTrue, of-every, to-every, of-eight, to-eight}
use Rattle.cluster.specs.declared.Controller.{Controller}
use Rattle.cluster.specs.declared.Cluster.{Cluster}
use Rattle.cluster.specs.Layout.{bits, stage_of, at, outline_of}
use Rattle.refinement.specs.Refinement.{Places, logged, abs, Shape, Ready, written}
use Rattle.refinement.proofs.Turning.{logged-full, log-len, outline-abs}
use Rattle.steps.specs.Call.{valid}
use Rattle.shown.proofs.Valid.{ready, valid-full, valid-range}
use Rattle.hub.specs.Replies.{Reply}
use Rattle.hub.specs.Lent.{registry_fits, controller_fits, report_ranges, report_fits, leader_fits, Reported, Lends}
use Rattle.hub.specs.Whole.{put_back, report_of, AsWhole, PutBack}
use Rattle.hub.proofs.Fitting.{registry-fits, hearings, controller-fits}

-- A row that refusal 1 lets through: its parts fit, and what its boards tell does.
module _ (row : Cluster) (ok : in_range (outline_of row) ≡ true) where
  all : AllTrue (ranges (outline_of row))
  all = of-every (ranges (outline_of row)) (of-true ok)

  by-board : (b : ℕ) → T (is_replica b) → AllTrue (replica_ranges (outline_of row) b)
  by-board b k =
      of-every (replica_ranges (outline_of row) b)
      (of-eight (λ x. every (replica_ranges (outline_of row) x)) all.1.1.1.1.1.0 b k)

  registry-fit : registry_fits row.registry ≡ true
  registry-fit =
      sym (registry-fits row.registry)
      ∙ rw (
        is_true (every (view_ranges (outline_of row).registry.view)) all.0,
        is_true (leader_named (outline_of row).registry) all.1.1.0,
      )

  controller-fit : controller_fits row.controller ≡ true
  controller-fit =
      sym (controller-fits row.controller)
      ∙ rw (
        is_true (every (view_ranges (outline_of row).controller.view)) all.1.0,
        is_true (controller_leader_named (outline_of row).controller) all.1.1.1.0,
        is_true (hearings row.controller.heard row.controller.joined) heard,
      )
    where
      heard : T (hearings row.controller.heard row.controller.joined)
      heard =
          to-eight (λ b. every (leb (at 0 row.controller.heard b) 513 ∷ leb (at 0 row.controller.joined b) 4000
          ∷ []))
          (λ b k. let r = by-board b k in
          to-every (leb (at 0 row.controller.heard b) 513 ∷ leb (at 0 row.controller.joined b) 4000 ∷ [])
          (r.1.1.1.0, (r.1.1.1.1.0, tt)))

  report-fit : (b : ℕ) → is_replica b ≡ true → report_fits row.controller (report_of row b) ≡ true
  report-fit b t =
      let r = by-board b (of-true t) in
      let v = of-every (view_ranges ((outline_of row).view b)) r.0 in
      rw (
        controller-fit,
        is_true (every (report_ranges (report_of row b)))
            (to-every (report_ranges (report_of row b)) (of-true t, (v.0, (r.1.0, (r.1.1.0, tt))))),
      )

module _ (row : Cluster) (p : Places) (shape : Shape row) (v : valid row p ≡ true) where
  abbrev s : RowState
  s = abs row p

  within : in_range (outline_of row) ≡ true
  within = valid-range row p v

  is-ready : Ready row
  is-ready = ready row shape within

  -- What a row's boards tell is so in its state.
  reported : (b : ℕ) → Reported (report_of row b) s
  reported b = record {
    epoch = refl;
    joined = refl;
    len = log-len (logged p) (logged-full p (valid-full row p v)) row.len is-ready.short b;
  }

  -- A lent call that answered and left what the model's step does is a call of the whole row.
  as-whole : (st : Step) → writes st ≡ nothing → (r : Reply) (c' : Controller) → r.answer ≡ answer_of (outline s) st
      → bits r.behind ≡ behind (outline s) st → abs (put_back row c') p ≡ step entries s st
      → (r.answer ≢ 0 → c' ≡ row.controller) → AsWhole st row p r c'
  as-whole st w r c' a b e f =
      let full = valid-full row p v in
      let o = outline-abs row is-ready.short is-ready.issued p full in
      let o' = outline-abs (put_back row c') is-ready.short is-ready.issued p full in
      record {
        answer = a ∙ ap (λ m. answer_of m st) o ∙ ap (λ u. cond u (answer_of (outline_of row) st) 1) (sym v);
        behind = b ∙ ap (λ m. behind m st) o ∙ ap (λ u. cond u (behind (outline_of row) st) none) (sym v);
        state = e ∙ ap (λ u. cond u (step entries s st) s) (sym v);
        outlined = sym o' ∙ ap outline e ∙ ap (λ u. cond u (outline (step entries s st)) (outline_of row)) (sym v);
        places = same-choice (valid row p && accepted (outline_of row) st) (ap (λ x. written x row p) w);
        refused = λ z. ap (put_back row) (f z);
      }

  -- It did, where what it was given fits and is so.
  fitting : (st : Step) → writes st ≡ nothing → (fits : Bool) (Known : RowState → Type 0) (r : Reply)
      (c' : Controller)
      → fits ≡ true → Known s
      → Lends fits Known st row.controller r c' → AsWhole st row p r c'
  fitting st w fits Known r c' f k l = as-whole st w r c'
      (l.answer s (λ _. k) ∙ ap (λ u. cond u (answer_of (outline s) st) 1) f)
      (l.behind s (λ _. k) ∙ ap (λ u. cond u (behind (outline s) st) none) f)
      (l.state s (λ _. k) ∙ ap (λ u. cond u (step entries s st) s) f) l.refused

  -- It did, where what it was given does not fit, if the step refuses with 1 too.
  unfitting : (st : Step) → writes st ≡ nothing → (fits : Bool) (Known : RowState → Type 0) (r : Reply)
      (c' : Controller)
      → fits ≡ false
      → answer_of (outline s) st ≡ 1 → accepted (outline s) st ≡ false → Lends fits Known st row.controller r c'
      → AsWhole st row p r c'
  unfitting st w fits Known r c' f a e l = as-whole st w r c'
      (l.answer s untold ∙ ap (λ u. cond u (answer_of (outline s) st) 1) f ∙ sym a)
      (l.behind s untold ∙ ap (λ u. cond u (behind (outline s) st) none) f
      ∙ ap (λ u. cond u (qualified (outline s) st) none) (sym e))
      (l.state s untold ∙ ap (λ u. cond u (step entries s st) s) f ∙ ap (λ u. cond u (next entries s st) s) (sym e))
      l.refused
    where
      untold : fits ≡ true → Known s
      untold t = absurd (subst (λ u. T (not u)) (sym f ∙ t) tt)

  -- Steps 12 and 14, of any number b: a board, or none, which both refuse with 1.
  told-whole : (st : Step) (b : ℕ)
      → ((m : Outline) → is_replica b ≡ false → (answer_of m st ≡ 1) × (accepted m st ≡ false)) → writes st ≡ nothing
      → (r : Reply) (c' : Controller) → Lends (report_fits row.controller (report_of row b))
      (Reported (report_of row b)) st
      row.controller r c' → AsWhole st row p r c'
  told-whole st b first w r c' l = go (is_replica b) refl
    where
      go : (t : Bool) → is_replica b ≡ t → AsWhole st row p r c'
      go true e = fitting st w _ _ r c' (report-fit row within b e) (reported b) l
      go false e =
          let f = first (outline s) e in
          unfitting st w _ _ r c' (rw (controller-fit row within, e)) f.0 f.1 l

-- Step 11's report is the leader's at stage leader.
leader-fit : (row : Cluster) (b : ℕ) → report_fits row.controller (report_of row b) ≡ true
    → (stage_number (stage_of row.controller.stage) ≡ 1 → b ≡ row.controller.view.leader)
    → leader_fits row.controller (report_of row b) ≡ true
leader-fit row b f h = rw f (go (eqb (stage_number (stage_of row.controller.stage)) 1) refl)
  where
    go : (t : Bool) → eqb (stage_number (stage_of row.controller.stage)) 1 ≡ t
        → (not t || eqb b row.controller.view.leader) ≡ true
    go true e =
        eq-eqb b row.controller.view.leader (h (eqb-true (stage_number (stage_of row.controller.stage)) 1 e))
    go false e = refl

pub put-back : PutBack
unfolding PutBack
put-back row p shape v =
    let ok = within row p shape v in
    record {
      news = λ r c' l. fitting row p shape v S.refresh_controller refl _ _ r c'
          (rw (registry-fit row ok, controller-fit row ok)) refl l;
      read_leader = λ b r c' t l. fitting row p shape v S.read_leader refl _ _ r c'
          (leader-fit row b (report-fit row ok b t.0) t.1) (reported row p shape v b) l;
      read = λ b r c' l. told-whole row p shape v (S.read b) b (λ m e. (rw e, rw e)) refl r c' l;
      hear = λ b r c' l. told-whole row p shape v (S.hear b) b (λ m e. (rw e, rw e)) refl r c' l;
    }

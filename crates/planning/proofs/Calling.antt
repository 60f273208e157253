-- From the list that was made to the whole call, and what it gives in a run of calls. Assumes nothing.
use mathlib.Core.Bool.{true, false, cond, ◌&&◌}
use mathlib.Core.List.{List}
use mathlib.Core.Path.{◌≡◌, sym, subst, ap, ap₂, ◌∙◌}
use Prim.Native.Nat.{ℕ, ◌≤◌}
use Rattle.std.specs.Prelude.{Result, Err}
use Rattle.refusal.specs.declared.Refusal.{Refusal}
use Rattle.refusal.specs.declared.Refusal.TheVariants.{Invalid, Room}
use Rattle.model.specs.State.{entries, RowState}
use Rattle.model.proofs.Tests.{is_true}
use Rattle.cluster.specs.declared.Cluster.{Cluster}
use Rattle.refinement.specs.Refinement.{Places, lent, abs, Shape}
use Rattle.text.specs.Text.{Text}
use Rattle.shown.specs.Shown.{valid}
use Rattle.shown.proofs.Valid.{valid-full, valid-range}
use Rattle.steps.specs.Calls.{CallsSafe}
use Rattle.recovery.specs.Plan.{found, plan}
use Rattle.recovery.specs.Claim.{Leads, RunsRecover}
use Rattle.pieces.specs.Fitting.{Fit}
use Rattle.delivery.specs.Planned.{Planned, planned}
use Rattle.delivery.specs.Delivery.{enough, plan_answer, plan_count, plan_left, Gives}
use Rattle.drafting.proofs.Fitting.{ranged-fit}
use Rattle.planning.specs.Planning.{Plans, CallsRecover, FollowsRecover}

-- The three ways in which a call ends.
module _ (row : Cluster) (p : Places) (out : Text) where
  pub plans-invalid : valid row p ≡ false → {y : Result ℕ Refusal} → y ≡ Err Invalid → Plans row p out (planned y) out
  plans-invalid v q =
      subst (λ y. Plans row p out (planned y) out) (sym q) (record { answer = rw v; count = rw v; left = rw v })

  pub plans-short : valid row p ≡ true → enough out ≡ false → {y : Result ℕ Refusal} → y ≡ Err Room
      → Plans row p out (planned y) out
  plans-short v e q =
      subst (λ y. Plans row p out (planned y) out) (sym q)
      (record { answer = rw (v, e); count = rw (v, e); left = rw (v, e) })

  pub plans-list : valid row p ≡ true → enough out ≡ true → {x : Planned} {out' : Text}
      → Gives (plan entries (abs row p)) out x out' → Plans row p out x out'
  plans-list v e g = record { answer = rw (v, e) g.answer; count = rw (v, e) g.count; left = rw (v, e) g.left }

-- After a run the list is there, and leads to normal.
pub follows-recover : RunsRecover → FollowsRecover
unfolding RunsRecover FollowsRecover
follows-recover runs o real sts h ns qs f low out room x out' plans =
    let n = runs o real sts (subst (λ (s : RowState). s.registry.view.epoch ≤ 3998) f.state low) in
    let e : plan entries (abs h.row h.places) ≡ found n.list = ap (plan entries) f.state ∙ n.exists in
    let q = plan entries (abs h.row h.places) in
    let v = f.fit in
    let r = is_true (enough out) room in
    record {
      answer = plans.answer ∙ ap₂ (λ t u. cond t (cond u (plan_answer q) 3) 1) v r ∙ ap plan_answer e;
      list = n.list;
      count = plans.count ∙ ap₂ (λ t u. cond (t && u) (plan_count q) 0) v r ∙ ap plan_count e;
      left = plans.left ∙ ap₂ (λ t u. cond (t && u) (plan_left q out) out) v r ∙ ap (λ w. plan_left w out) e;
      leads = subst (λ s. Leads entries s n.list) (sym f.state) n.leads;
    }

pub calls-recover : CallsSafe → FollowsRecover → CallsRecover
unfolding CallsSafe FollowsRecover CallsRecover
calls-recover safe follows o h begins sts h' ns qs calls low =
    follows o begins.real sts h' ns qs (safe o h begins sts h' ns qs calls) low

-- Copies of the places, each as long as what it is a copy of.
pub copied : {a b c d a' b' c' d' : List ℕ} → a' ≡ a → b' ≡ b → c' ≡ c → d' ≡ d → lent a' b' c' d' ≡ lent a b c d
copied ea eb ec ed = λ i. lent (ea i) (eb i) (ec i) (ed i)

module _ (row : Cluster) (p q : Places) (e : q ≡ p) where
  -- A list can be made on them,
  pub copies-fit : Shape row → valid row p ≡ true → Fit row q
  copies-fit s v =
      subst (Fit row) (sym e) (ranged-fit row p s (valid-range row p v) (valid-full row p v))

  -- and it is the list of the row.
  pub copies-give : {out out' : Text} {x : Planned} → Gives (plan entries (abs row q)) out x out'
      → Gives (plan entries (abs row p)) out x out'
  copies-give {out} {out'} {x} g = subst (λ r. Gives (plan entries (abs row r)) out x out') e g

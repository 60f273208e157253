-- From refusal 1 and the inner step to what a call promises; the lent places keep their lengths. Assumes nothing.
use mathlib.Core.Bool.{Bool, true, false, cond, ◌&&◌}
use mathlib.Core.Path.{◌≡◌, sym, subst, ap, ◌∙◌}
use Prim.Native.Nat.{ℕ}
use lib.ListN.{length-set}
use Rattle.model.specs.Members.{none}
use Rattle.model.specs.State.{Entry, outline, entries}
use Rattle.model.specs.Steps.{Step, Writes, appends, commits, receives, nothing, writes, accepted, answer_of, behind, step}
use Rattle.model.proofs.Tests.{by_cond}
use Rattle.cluster.specs.declared.Cluster.{Cluster}
use Rattle.cluster.specs.Ended.{Outcome}
use Rattle.cluster.specs.Layout.{bits, outline_of}
use Rattle.refinement.specs.Refinement.{Places, Full, abs, put_log, put_list, written, places_after, Turns}
use Rattle.refinement.proofs.Turning.{bits_none, outline-abs}
use Rattle.steps.specs.Call.{valid, Did}

-- The lent places keep their lengths.
put-log-full : (p : Places) (i : ℕ) (x : Entry) → Full p → Full (put_log p i x)
put-log-full p i x f = record {
  store = length-set p.store i x.value ∙ f.store;
  store2 = length-set p.store2 i x.term ∙ f.store2;
  list = f.list;
  list2 = f.list2;
}

put-list-full : (p : Places) (i : ℕ) (x : Entry) → Full p → Full (put_list p i x)
put-list-full p i x f = record {
  store = f.store;
  store2 = f.store2;
  list = length-set p.list i x.value ∙ f.list;
  list2 = length-set p.list2 i x.term ∙ f.list2;
}

written-full : (w : Writes) (row : Cluster) (p : Places) → Full p → Full (written w row p)
written-full (appends b value) row p f = put-log-full p _ _ f
written-full (commits b) row p f = put-list-full p _ _ f
written-full (receives b) row p f = put-log-full p _ _ f
written-full nothing row p f = f

kept_full : (t : Bool) (st : Step) (row : Cluster) (p : Places) {p' : Places} → p' ≡ cond t (places_after st row p) p
    → Full p → Full p'
kept_full t st row p e f = subst Full (sym e) (by_cond Full t (λ _. written-full (writes st) row p f) (λ _. f))

module _ (st : Step) (row : Cluster) (p : Places) where
  -- Refusal 1.
  pub did-refused : valid row p ≡ false → (x : Outcome) → x.answer ≡ 1 → x.behind ≡ 0
      → x.row ≡ row → Did st row p x p
  did-refused v x ea eb er = record {
    answer = ea ∙ ap (λ t. cond t (answer_of (outline_of row) st) 1) (sym v);
    behind = ap bits eb ∙ bits_none ∙ ap (λ t. cond t (behind (outline_of row) st) none) (sym v);
    state = ap (λ y. abs y p) er ∙ ap (λ t. cond t (step entries (abs row p) st) (abs row p)) (sym v);
    outlined = ap outline_of er ∙ ap (λ t. cond t (outline (step entries (abs row p) st)) (outline_of row)) (sym v);
    places = ap (λ t. cond (t && accepted (outline_of row) st) (places_after st row p) p) (sym v);
    refused = λ _. er;
  }

  -- What is lent is left as long as it was.
  pub did-full : {x : Outcome} {p' : Places} → Did st row p x p' → Full p → Full p'
  did-full d f = kept_full (valid row p && accepted (outline_of row) st) st row p d.places f

  -- Else the step.
  pub did-step : valid row p ≡ true → Full p → {x : Outcome} {p' : Places} → Turns st row p x p' → Did st row p x p'
  did-step v full {x} {p'} t =
      let full' = kept_full (accepted (outline_of row) st) st row p t.places full in
      record {
        answer = t.answer ∙ ap (λ u. cond u (answer_of (outline_of row) st) 1) (sym v);
        behind = t.behind ∙ ap (λ u. cond u (behind (outline_of row) st) none) (sym v);
        state = t.state ∙ ap (λ u. cond u (step entries (abs row p) st) (abs row p)) (sym v);
        outlined = sym (outline-abs x.row t.short t.issued p' full') ∙ ap outline t.state
            ∙ ap (λ u. cond u (outline (step entries (abs row p) st)) (outline_of row)) (sym v);
        places = t.places ∙ ap (λ u. cond (u && accepted (outline_of row) st) (places_after st row p) p) (sym v);
        refused = t.refused;
      }

-- From the inner step to a record that was tried. Assumes nothing.
use mathlib.Core.Bool.{cond}
use mathlib.Core.Logic.{◌≢◌}
use mathlib.Core.Path.{◌≡◌, sym, subst, ap, ◌∙◌}
use lib.ListN.{length-set}
use Rattle.model.specs.State.{outline}
use Rattle.model.specs.Steps.{Step, Writes, appends, commits, receives, nothing, writes, accepted, answer_of}
use Rattle.model.specs.Records.{Record, step_of}
use Rattle.model.proofs.Tests.{by_cond}
use Rattle.model.proofs.Answer.{nonzero-refused}
use Rattle.cluster.specs.declared.Cluster.{Cluster}
use Rattle.cluster.specs.Ended.{Outcome}
use Rattle.cluster.specs.Layout.{outline_of}
use Rattle.refinement.specs.Refinement.{Places, Full, abs, Shape, Ready, written, places_after, Turns}
use Rattle.refinement.proofs.Turning.{outline-abs}
use Rattle.pieces.specs.Fitting.{Leaders, Keeps, Fit}

-- A row on which a record can be tried is ready for its step.
pub fit-ready : (row : Cluster) (p : Places) → Shape row → Fit row p → Ready row
fit-ready row p s f = record {
  shape = s;
  short = f.short;
  issued = f.issued;
  leaders = f.leaders.views;
  reads = f.leaders.reads;
}

-- The lent places keep their lengths.
written-full : (w : Writes) (row : Cluster) (p : Places) → Full p → Full (written w row p)
written-full (appends b value) row p f = record {
  store = length-set p.store _ value ∙ f.store;
  store2 = length-set p.store2 _ _ ∙ f.store2;
  list = f.list;
  list2 = f.list2;
}
written-full (commits b) row p f = record {
  store = f.store;
  store2 = f.store2;
  list = length-set p.list _ _ ∙ f.list;
  list2 = length-set p.list2 _ _ ∙ f.list2;
}
written-full (receives b) row p f = record {
  store = length-set p.store _ _ ∙ f.store;
  store2 = length-set p.store2 _ _ ∙ f.store2;
  list = f.list;
  list2 = f.list2;
}
written-full nothing row p f = f

full-still : (st : Step) (row : Cluster) (p : Places) → Full p → {x : Outcome} {p' : Places} → Turns st row p x p' → Full p'
full-still st row p f t =
    subst Full (sym t.places)
    (by_cond Full (accepted (outline_of row) st) (λ _. written-full (writes st) row p f) (λ _. f))

-- The step of a record by another name.
pub turned : {q r : Record} {row : Cluster} {p : Places} {x : Outcome} {p' : Places} → q ≡ r → Turns (step_of q) row p x p'
    → Turns (step_of r) row p x p'
turned {row = row} {p = p} {x = x} {p' = p'} e t = subst (λ w. Turns (step_of w) row p x p') e t

module _ (r : Record) (row : Cluster) (p : Places) (f : Fit row p) where
  -- It is one still after the step,
  pub fits-still : Keeps (step_of r) → {x : Outcome} {p' : Places} → Turns (step_of r) row p x p' → Fit x.row p'
  fits-still keeps t = record {
    short = t.short;
    issued = t.issued;
    full = full-still (step_of r) row p f.full t;
    leaders = subst Leaders (sym t.state) (keeps (abs row p) f.leaders);
  }

  -- whose answer is the model's.
  pub answered : {x : Outcome} {p' : Places} → Turns (step_of r) row p x p' → x.answer ≡ answer_of (outline (abs row p)) (step_of r)
  answered t = t.answer ∙ ap (λ m. answer_of m (step_of r)) (sym (outline-abs row f.short f.issued p f.full))

-- Refused, it leaves row and places.
pub unchanged : {st : Step} {row : Cluster} {p : Places} {x : Outcome} {p' : Places} → Turns st row p x p'
    → x.answer ≢ 0 → (x.row ≡ row) × (p' ≡ p)
unchanged {st} {row} {p} t z = (
  t.refused z,
  t.places ∙ ap (λ b. cond b (places_after st row p) p)
      (nonzero-refused (outline_of row) st (λ y. z (t.answer ∙ y))),
)

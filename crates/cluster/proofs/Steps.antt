-- A step of the registry, of the controller or of both that was refused, and one of both that was accepted: if its
-- answer is the model's, so is the rest. Assumes nothing.
use mathlib.Core.Logic.{◌≢◌}
use mathlib.Core.Path.{◌≡◌, refl, sym, ap, ◌∙◌}
use mathlib.Core.Bool.{true, false, cond}
use Prim.Native.Nat.{ℕ}
use native.Mathlib.Omega.{arith}
use Rattle.std.proofs.Common.{Ok, Err}
use Rattle.refusal.specs.declared.Refusal.{Refusal}
use Rattle.refusal.specs.Refusal.{number}
use Rattle.refusal.proofs.Checks.{least}
use Rattle.model.specs.State.{RowState, outline, entries}
use Rattle.model.specs.Steps.{Step, accepted, answer_of, qualified, next, with_registry, with_controller}
use Rattle.model.proofs.Answer.{zero-accepted, nonzero-refused, set-left}
use Rattle.members.specs.Mask.{bits}
use Rattle.members.proofs.Laws.{bits_none}
use Rattle.cluster.specs.declared.Registry.{Registry}
use Rattle.cluster.specs.declared.Controller.{Controller}
use Rattle.cluster.specs.Ended.{ruled, told, settled}
use Rattle.cluster.specs.Layout.{registry_of, controller_of}
use Rattle.cluster.specs.Parts.{Rules, Tells, both_in, Settles}

-- The state s with these parts in it.
abbrev pub registry_in : Registry → RowState → RowState
registry_in r s = with_registry s (registry_of r)

abbrev pub controller_in : Controller → RowState → RowState
controller_in c s = with_controller s (controller_of c)

-- A refusal's number is not 0.
pub number-positive : (e : Refusal) → number e ≢ 0
number-positive e z = omega (arith, least e, z)

-- A step of the registry, refused with e.
pub rules_refused : (st : Step) (r : Registry) (e : Refusal)
    → ((s : RowState) → number e ≡ answer_of (outline (registry_in r s)) st) → Rules st r (ruled (Err e) r)
rules_refused st r e same = record {
  answer = same;
  after = λ s. ap (λ t. (cond t (next entries (registry_in r s) st) (registry_in r s)).registry)
      (sym (nonzero-refused (outline (registry_in r s)) st (λ z. number-positive e (same s ∙ z))));
  refused = λ _. refl;
}

-- A step of the controller.
pub tells_refused : (Known : RowState → Type 0) (st : Step) (c : Controller) (e : Refusal)
    → ((s : RowState) → Known s → number e ≡ answer_of (outline (controller_in c s)) st)
    → Tells Known st c (told c (Err e))
tells_refused Known st c e same = record {
  answer = same;
  after = λ s k. ap (λ t. (cond t (next entries (controller_in c s) st) (controller_in c s)).controller)
      (sym (nonzero-refused (outline (controller_in c s)) st (λ z. number-positive e (same s k ∙ z))));
  refused = λ _. refl;
}

-- A step of both.
pub settles_refused : (st : Step) (r : Registry) (c : Controller) (e : Refusal)
    → ((s : RowState) → number e ≡ answer_of (outline (both_in r c s)) st) → Settles st r c (settled (Err e) r c)
settles_refused st r c e same = record {
  answer = same;
  behind = λ s. set-left (outline (both_in r c s)) st (number e) (same s) (bits 0)
      (λ h. bits_none) (λ z. absurd (number-positive e z));
  registry = λ s. ap (λ t. (cond t (next entries (both_in r c s) st) (both_in r c s)).registry) (sym (no s));
  controller = λ s. ap (λ t. (cond t (next entries (both_in r c s) st) (both_in r c s)).controller) (sym (no s));
  refused = λ _. (refl, refl);
}
  where
    no : (s : RowState) → accepted (outline (both_in r c s)) st ≡ false
    no s = nonzero-refused (outline (both_in r c s)) st (λ z. number-positive e (same s ∙ z))

pub settles_accepted : (st : Step) (r r' : Registry) (c c' : Controller) (q : ℕ)
    → ((s : RowState) → 0 ≡ answer_of (outline (both_in r c s)) st)
    → ((s : RowState) → bits q ≡ qualified (outline (both_in r c s)) st)
    → ((s : RowState) → registry_of r' ≡ (next entries (both_in r c s) st).registry)
    → ((s : RowState) → controller_of c' ≡ (next entries (both_in r c s) st).controller)
    → Settles st r c (settled (Ok q) r' c')
settles_accepted st r r' c c' q same those ruling telling = record {
  answer = same;
  behind = λ s. set-left (outline (both_in r c s)) st 0 (same s) (bits q)
      (λ h. absurd (h refl)) (λ _. those s);
  registry = λ s. ruling s ∙ ap (λ t. (cond t (next entries (both_in r c s) st) (both_in r c s)).registry) (sym (yes s));
  controller = λ s. telling s
      ∙ ap (λ t. (cond t (next entries (both_in r c s) st) (both_in r c s)).controller) (sym (yes s));
  refused = λ h. absurd (h refl);
}
  where
    yes : (s : RowState) → accepted (outline (both_in r c s)) st ≡ true
    yes s = zero-accepted (outline (both_in r c s)) st (sym (same s))

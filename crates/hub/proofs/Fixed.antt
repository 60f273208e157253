-- What a lent call promises fixes its answer and the record that it leaves, since what it is told is so in some state.
-- Assumes nothing.
use mathlib.Core.Bool.{Bool, true}
use mathlib.Core.List.{[]}
use mathlib.Core.Path.{◌≡◌, refl, sym, ap, ◌∙◌}
use lib.ListN.{replicate, length-replicate}
use Rattle.model.specs.State.{RowState, Entry, entry, opening_with, opened, zeros}
use Rattle.model.specs.Steps.{Step, with_registry}
use Rattle.cluster.specs.declared.Controller.{Controller}
use Rattle.cluster.specs.Layout.{registry_of}
use Rattle.refinement.specs.Rows.{TypedController}
use Rattle.refinement.proofs.Rows.{bits-injective, controllers-equal}
use Rattle.hub.specs.declared.Report.{Report}
use Rattle.hub.specs.Replies.{Reply}
use Rattle.hub.specs.Lent.{Reported, Lends, TypedReply, LentFixed}

-- A state in which what a board tells is so: every board has it. (One with the registry that step 10 is told needs no
-- words.)
somewhere : (x : Report) → (s : RowState) × Reported x s
somewhere x = (
  record {
    registry = (opened {E = Entry} (opening_with 1)).registry;
    controller = (opened {E = Entry} (opening_with 1)).controller;
    view = λ _. record { epoch = x.epoch; term = 1; leader = 0; members = λ _. true };
    joined = λ _. x.joined;
    acked = λ _. zeros;
    log = λ _. replicate x.len (entry 0 0);
    committed = [];
  },
  record { epoch = refl; joined = refl; len = length-replicate x.len (entry 0 0) },
)

fixed : (fits : Bool) (Known : RowState → Type 0) (st : Step) (c : Controller) (r q : Reply) (c' d : Controller)
    → TypedReply r → TypedReply q → TypedController c' → TypedController d → (s : RowState) → Known s
    → Lends fits Known st c r c' → Lends fits Known st c q d → (r ≡ q) × (c' ≡ d)
fixed fits Known st c r q c' d hr hq t u s k l l' = (
  let n = l.answer s (λ _. k) ∙ sym (l'.answer s (λ _. k)) in
      let b = bits-injective r.behind q.behind hr hq (l.behind s (λ _. k) ∙ sym (l'.behind s (λ _. k))) in
      λ i. record { answer = n i; behind = b i },
  controllers-equal c' d t u (ap (λ s. s.controller) (l.state s (λ _. k) ∙ sym (l'.state s (λ _. k)))),
)

pub lent-fixed : LentFixed
lent-fixed = record {
  news = λ c g r q c' d hr hq t u l l'. fixed _ _ _ c r q c' d hr hq t u
      (with_registry (opened (opening_with 1)) (registry_of g)) refl
      l l';
  read_leader = λ c x r q c' d hr hq t u l l'. fixed _ _ _ c r q c' d hr hq t u (somewhere x).0 (somewhere x).1 l l';
  read = λ c x r q c' d hr hq t u l l'. fixed _ _ _ c r q c' d hr hq t u (somewhere x).0 (somewhere x).1 l l';
  hear = λ c x r q c' d hr hq t u l l'. fixed _ _ _ c r q c' d hr hq t u (somewhere x).0 (somewhere x).1 l l';
}

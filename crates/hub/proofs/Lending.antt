-- From the by-value step of the core and refusal 1 to what a call over the lent controller promises. Assumes nothing.
use mathlib.Core.Bool.{Bool, true, false, not, cond, ◌||◌}
use mathlib.Core.Path.{◌≡◌, refl, sym, ap, subst, ◌∙◌}
use Prim.Native.Nat.{ℕ, ◌≤◌}
use lib.Dec.{T, leb, eqb, eqb→eq}
use lib.ListN.{length}
use borrow.Author.Tests.{leb-true, eq-eqb}
use Rattle.std.specs.Prelude.{Result, Ok, Err}
use Rattle.model.specs.Members.{is_replica, none}
use Rattle.model.specs.State.{RowState, Outline, outline, entries, stage_number}
use Rattle.model.specs.Steps.{Step, accepted, qualified, next, step, with_controller}
use Rattle.model.specs.Ranges.{every}
use Rattle.model.proofs.Tests.{same-choice, of-true, is_true, split-and}
use Rattle.model.proofs.Range.{AllTrue, of-every}
use Rattle.cluster.specs.declared.Controller.{Controller}
use Rattle.refusal.specs.declared.Refusal.{Refusal}
use Rattle.refusal.specs.declared.Refusal.TheVariants.{Invalid}
use Rattle.refusal.specs.Refusal.{number}
use Rattle.cluster.specs.Ended.{told}
use Rattle.cluster.specs.Layout.{stage_of, controller_of}
use Rattle.cluster.specs.Parts.{Tells}
use Rattle.cluster.specs.Stages.{HasLeader}
use Rattle.steps_controller.specs.Known.{LeaderKnown, ReadKnown, HearKnown}
use Rattle.refinement.proofs.Turning.{bits_none}
use Rattle.hub.specs.declared.Report.{Report}
use Rattle.hub.specs.Replies.{returned}
use Rattle.hub.specs.Lent.{controller_fits, report_ranges, report_fits, leader_fits, Reported, Lends}

-- A step that changes the controller at most: the state before it with the controller after it is the state after it.
module _ (st : Step) (only : (s : RowState) → next entries s st ≡ with_controller s (next entries s st).controller)
    (s : RowState) where
  put-back : with_controller s (step entries s st).controller ≡ step entries s st
  put-back = go (accepted (outline s) st)
    where
      go : (t : Bool) → with_controller s (cond t (next entries s st) s).controller ≡ cond t (next entries s st) s
      go true = sym (only s)
      go false = refl

-- Refusal 1, which leaves c.
pub turned-away : (ok fits : Bool) (Known : RowState → Type 0) (st : Step) (c : Controller) (e : Refusal) → ok ≡ fits
    → ◌≡◌ {A = Result (Unit {0}) Refusal} (Err e) (cond ok (Ok tt) (Err Invalid))
    → Lends fits Known st c (returned c (Err e)).reply (returned c (Err e)).controller
turned-away true fits Known st c e same l = absurd (cc)
turned-away false fits Known st c e same l = record {
  answer = λ s f. rw (← same) (ap number one);
  behind = λ s f. rw (← same) bits_none;
  state = λ s f. rw (← same);
  refused = λ _. refl;
}
  where
    one : e ≡ Invalid
    one = cc

-- Or what passed it.
pub let-through : (ok fits : Bool) (u : Unit {0}) → ok ≡ fits
    → ◌≡◌ {A = Result (Unit {0}) Refusal} (Ok u) (cond ok (Ok tt) (Err Invalid)) → fits ≡ true
let-through true fits u same l = sym same
let-through false fits u same l = absurd (cc)

-- The core's step of c, which is st and asks no majority, left x, where refusal 1 lets c and what it was told through.
module _ (st : Step) (only : (s : RowState) → next entries s st ≡ with_controller s (next entries s st).controller)
    (quiet : (m : Outline) → qualified m st ≡ none) (c : Controller) (Known' : RowState → Type 0)
    (x : Result Controller Refusal) (h : Tells Known' st c (told c x)) where
  pub lends : (fits : Bool) (Known : RowState → Type 0) → fits ≡ true → ((s : RowState) → Known s → Known' s)
      → Lends fits Known st c (returned c x).reply (returned c x).controller
  lends fits Known ok k = record {
    answer = λ s f. rw ok (h.answer s (k s (f ok)));
    behind = λ s f. rw ok (bits_none
        ∙ same-choice (accepted (outline (with_controller s (controller_of c))) st)
        (quiet (outline (with_controller s (controller_of c)))));
    state = λ s f. rw ok (ap (with_controller s) (h.after s (k s (f ok)))
        ∙ put-back st only (with_controller s (controller_of c)));
    refused = h.refused;
  }

-- A report that fits.
module _ (c : Controller) (x : Report) where
  fields : report_fits c x ≡ true → AllTrue (report_ranges x)
  fields t = of-every (report_ranges x) (split-and (controller_fits c) (every (report_ranges x)) (of-true t)).1

  -- Of the controller's leader: at stage leader it is the leader's.
  module _ (t : leader_fits c x ≡ true) where
    abbrev stage : ℕ
    stage = stage_number (stage_of c.stage)

    both : T (report_fits c x) × T (not (eqb stage 1) || eqb x.board c.view.leader)
    both = split-and (report_fits c x) (not (eqb stage 1) || eqb x.board c.view.leader) (of-true t)

    pub fit : report_fits c x ≡ true
    fit = is_true (report_fits c x) both.0

    leaders : stage ≡ 1 → x.board ≡ c.view.leader
    leaders g = eqb→eq x.board c.view.leader
        (subst (λ u. T (not u || eqb x.board c.view.leader)) (eq-eqb stage 1 g) both.1)

    pub leader-fits : HasLeader c
    leader-fits g = subst (λ b. is_replica b ≡ true) (leaders g) (is_true (is_replica x.board) (fields fit).0)

-- What the core's steps are told is so, where the report fits and is so.
module _ (c : Controller) (x : Report) where
  pub short : report_fits c x ≡ true → x.len ≤ 512
  short t = leb-true x.len 512 (is_true (leb x.len 512) (fields c x t).1.1.1.0)

  module _ (s : RowState) (k : Reported x s) where
    pub read_told : ReadKnown x.board x.joined x.len s
    read_told _ = (k.joined, k.len)

    pub hear-told : HearKnown x.board x.epoch x.joined x.len s
    hear-told _ = (k.epoch, k.joined, k.len)

    pub leader-told : leader_fits c x ≡ true → LeaderKnown c x.epoch x.len s
    leader-told t g =
        subst (λ b. ((s.view b).epoch ≡ x.epoch) × (length (s.log b) ≡ x.len)) (leaders c x t g) (k.epoch, k.len)

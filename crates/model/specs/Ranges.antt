-- The ranges of document 01, "The row", the leaders that refusal 1 asks for, and the kept epochs of document 02. Cited
-- by the promise of `ranges` and by every call's. Assumes nothing.
use Rattle.std.specs.Prelude.{Bool, true, not, ◌&&◌, ◌||◌, List, [], ◌∷◌, map, ℕ, T, leb, eqb}
use Rattle.model.specs.Members.{Members}
use Rattle.model.specs.State.{Entry, entries, View, Registry, Controller, RowState, Outline, Opening, can_open, outline, is_choosing, stage_number}
use Rattle.model.specs.Steps.{Step}
use Rattle.model.specs.Claim.{after}

-- All of them.
abbrev pub every : List Bool → Bool
every [] = true
every (t ∷ ts) = t && every ts

-- The tests of the replicas 1 to 8.
abbrev pub eight : Members → List Bool
eight p = p 1 ∷ p 2 ∷ p 3 ∷ p 4 ∷ p 5 ∷ p 6 ∷ p 7 ∷ p 8 ∷ []

-- "Epochs run from 1 to 4,000."
abbrev pub is_epoch : ℕ → Bool
is_epoch e = leb 1 e && leb e 4000

-- Members may be any set.
abbrev pub view_ranges : View → List Bool
view_ranges v = is_epoch v.epoch ∷ is_epoch v.term ∷ leb v.leader 8 ∷ []

-- Not "the registry's leader 0 while status is not choosing",
abbrev pub leader_named : Registry → Bool
leader_named r = is_choosing r.status || not (eqb r.view.leader 0)

-- nor "the controller's leader 0 at stage leader or boards".
abbrev pub controller_leader_named : Controller → Bool
controller_leader_named c =
    let stage = stage_number c.stage in eqb stage 0 || eqb stage 3 || not (eqb c.view.leader 0)

module _ (m : Outline) where
  open m use {registry, controller, view, joined, acked, len, issued}

  -- What is held by and heard of the replica b. A heard length is none, or 0 to 512: see Controller.
  abbrev pub replica_ranges : ℕ → List Bool
  replica_ranges b =
      every (view_ranges (view b)) ∷ is_epoch (joined b) ∷ leb (len b) 512 ∷ leb (controller.heard b) 513
      ∷ leb (controller.heard_joined b) 4000 ∷ every (eight (λ x. leb (acked b x) 512)) ∷ []

  abbrev pub ranges : List Bool
  ranges =
      every (view_ranges registry.view) ∷ every (view_ranges controller.view)
      ∷ leader_named registry ∷ controller_leader_named controller
      ∷ leb issued 512
      ∷ every (eight (λ b. every (replica_ranges b))) ∷ []

  -- The numbers of a row that refusal 1 lets through.
  abbrev pub in_range : Bool
  in_range = every ranges

-- "The kept epoch of an entry inside its log or the receipts is 1 to 4,000" (document 02, Paper 4).
abbrev pub terms_in_range : List Entry → Bool
terms_in_range xs = every (map (λ x. is_epoch x.term) xs)

abbrev pub kept_in_range : RowState → Bool
kept_in_range s = terms_in_range s.committed && every (eight (λ b. terms_in_range (s.log b)))

-- No state of a run earns refusal 1.
unfoldable pub RunsInRange : Type 0
RunsInRange = (o : Opening) → T (can_open o) → (sts : List Step)
    → T (in_range (outline (after entries o sts)) && kept_in_range (after entries o sts))

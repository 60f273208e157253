-- Demand 3 about calls: the opening, then any list of calls, by record or by name, each with the row and the lent
-- places as the one before returned or left them, or as an image gives them again that was written there. Cited by the
-- promise of `steps::claim`, and by hub's, which adds the calls over a lent controller. Assumes nothing.
use Rattle.std.specs.Prelude.{true, List, [], ◌∷◌, map, ◌≢◌, ◌≡◌, ℕ, T, take}
use Rattle.model.specs.Prelude.{◌⊑◌}
use Rattle.model.specs.State.{RowState, entries, outline, Opening, can_open, opened}
use Rattle.model.specs.Steps.{Step, append, commit, add, remove, change_leader, refresh, join, receive, acknowledge, refresh_controller, read_leader, read, set_normal, hear, install}
use Rattle.model.specs.Runs.{steps_of, answers, sets_behind}
use Rattle.model.specs.Claim.{LeadsUnder, after, receipts}
use Rattle.model.specs.Records.{bare, of, of_both, of_value}
use Rattle.cluster.specs.declared.Cluster.{Cluster}
use Rattle.cluster.specs.Layout.{bits, outline_of}
use Rattle.refinement.specs.Refinement.{Places, Full, abs}
use Rattle.refinement.specs.Rows.{Typed}
use Rattle.text.specs.Text.{Text}
use Rattle.image.specs.Keeping.{Saves, Loads}
use Rattle.steps_central.specs.Opening.{Opens}
use Rattle.steps.specs.Call.{valid, Did}

-- What a caller holds: a row and the lent places.
pub record Held : Type 0 where
  pub row : Cluster
  pub places : Places

abbrev pub state_of : Held → RowState
state_of h = abs h.row h.places

-- One call, by the record that each call promises: it answered n with those of the mask q behind it, and the caller
-- holds h' after it.
abbrev pub Called : Step → Held → Held → ℕ → ℕ → Type 0
Called st h h' n q = Did st h.row h.places (record { answer = n; behind = q; row = h'.row }) h'.places

-- "The hub must store a row and take it up again" (document 02, Paper 7): the writer took what the caller holds, h, and
-- left out' in its slice, of which the first n bytes are the image; the reader took these, and then the caller holds
-- h'. In between, any calls may have been made; the reader is given any row, any places, any scratch.
pub record TakenUp (h h' : Held) : Type 0 where
  -- What the row's type fixes.
  pub typed : Typed h.row
  pub out : Text
  pub n : ℕ
  pub out' : Text
  pub saves : Saves h.row h.places out n out'
  pub written : (n ≢ 1) × (n ≢ 3)
  pub given : Held
  pub scratch : Text
  pub scratch' : Text
  pub loads :
      Loads (take n out') given.row given.places scratch
      (record { answer = 0; row = h'.row }) h'.places scratch'

-- Calls one after the other, their answers and the masks of those behind them. A call by name is one of its step; the
-- call of a record is one of the step that the record stands for, which may be malformed. Anywhere, and any number of
-- times, the row may have been kept in an image and taken up again: "demand 3 holds for the steps before the image and
-- those after its reading as one list. Steps between, and what tills were told then, are left out."
pub data Calls : Held → List Step → Held → List ℕ → List ℕ → Type 0 where
  stop : {h : Held} → Calls h [] h [] []
  call : {h h' h'' : Held} {st : Step} {sts : List Step} {n q : ℕ} {ns qs : List ℕ}
      → Called st h h' n q → Calls h' sts h'' ns qs → Calls h (st ∷ sts) h'' (n ∷ ns) (q ∷ qs)
  resume : {h h' h'' : Held} {sts : List Step} {ns qs : List ℕ}
      → TakenUp h h' → Calls h' sts h'' ns qs → Calls h sts h'' ns qs

-- The caller has made the opening o, and was lent places of their lengths that may hold anything.
pub record Begins (o : Opening) (h : Held) : Type 0 where
  pub real : T (can_open o)
  pub opens : Opens o (record { answer = 0; behind = 0; row = h.row })
  pub full : Full h.places

-- After calls of the steps sts, with the answers ns and those of qs behind them, the caller holds h.
pub record Follows (o : Opening) (sts : List Step) (h : Held) (ns qs : List ℕ) : Type 0 where
  -- "The calls accept the same steps, and the row and lent places that they return or leave hold the same."
  pub answered : ns ≡ answers entries (opened o) sts
  pub behind : map bits qs ≡ sets_behind entries (opened o) sts
  pub state : state_of h ≡ after entries o sts
  pub outlined : outline_of h.row ≡ outline (after entries o sts)
  -- No row of a run earns refusal 1.
  pub fit : valid h.row h.places ≡ true
  -- The receipts given are the first entries of the log of the leader that the registry names; the two lists hold just
  -- them.
  pub leading : h.row.registry.view.leader ≢ 0
      → receipts entries o sts ⊑ (state_of h).log h.row.registry.view.leader
  pub kept : (state_of h).committed ≡ receipts entries o sts
  -- Whatever calls follow, the receipts then begin with them,
  pub lasting : (more : List Step) (h' : Held) (ms ps : List ℕ) → Calls h more h' ms ps
      → (state_of h).committed ⊑ (state_of h').committed
  -- and no two replicas hold themselves leader under one term, now or then.
  pub alone : (more : List Step) (h' : Held) (ms ps : List ℕ) → Calls h more h' ms ps
      → (x y t : ℕ) → LeadsUnder (state_of h) x t → LeadsUnder (state_of h') y t → x ≡ y

unfoldable pub CallsSafe : Type 0
CallsSafe =
    (o : Opening) (h : Held) → Begins o h → (sts : List Step) (h' : Held) (ns qs : List ℕ) → Calls h sts h' ns qs
    → Follows o sts h' ns qs

-- A call by name is the call of a record, in which the fields that its step does not use are 0: the step of each is its
-- record's.
unfoldable pub NamesHold : Type 0
NamesHold = (a b v : ℕ)
    → steps_of (of_value 1 b v ∷ of 2 b ∷ of 3 b ∷ of 4 b ∷ bare 5 ∷ of 6 b ∷ of 7 b ∷ of 8 b ∷ of_both 9 a b
    ∷ bare 10 ∷ bare 11 ∷ of 12 b ∷ bare 13 ∷ of 14 b ∷ of 15 b ∷ [])
    ≡ append b v ∷ commit b ∷ add b ∷ remove b ∷ change_leader ∷ refresh b ∷ join b ∷ receive b ∷ acknowledge a b
    ∷ refresh_controller ∷ read_leader ∷ read b ∷ set_normal ∷ hear b ∷ install b ∷ []

-- Every entry of a run was made at a leader epoch in range, of a value that some step appends: what holds of all entries
-- so made holds of every entry in a log or among the receipts. For every kind of entry; none is looked into. Assumes
-- nothing.
use mathlib.Core.Bool.{Bool, true, false, cond}
use mathlib.Core.List.{List, [], ◌∷◌, ◌++◌}
use mathlib.Core.Path.{◌≡◌}
use Prim.Native.Nat.{ℕ, zero, suc, ◌^◌, ◌<◌}
use native.Mathlib.Omega.{arith}
use lib.Dec.{T, eqb, ltb→lt}
use lib.ListN.{length, get_or}
use Rattle.model.specs.Prelude.{upd}
use Rattle.model.specs.State.{outline, Entries, IsExact, Entry, entries, State, RowState, Opening, can_open, opened}
use Rattle.model.specs.Steps.{Step, Writes, appends, commits, receives, nothing, writes, append, commit, add, remove, change_leader, refresh, join, receive, acknowledge, refresh_controller, read_leader, read, set_normal, hear, install, malformed, checks, accepted, next, step, shared}
use Rattle.model.specs.Records.{Record, step_of}
use Rattle.model.specs.Runs.{steps_of, run}
use Rattle.model.specs.Claim.{after}
use Rattle.model.specs.Ranges.{every, eight, is_epoch, terms_in_range, kept_in_range}
use Rattle.model.proofs.Tests.{Holds, facts, by_cond, join-and}
use Rattle.model.proofs.Range.{IsEpoch, to-epoch, to-eight}
use Rattle.model.proofs.Invariant.{Inv}
use Rattle.model.proofs.Entries.{same-entry}
use Rattle.model.proofs.Theorem.{opened-inv, step_keeps}
use Rattle.model.proofs.Rules.{◌then◌, by-rule}
use Rattle.model.proofs.Bounds.{Bounds, opened-bounds, step-bounds, view_in}

-- P holds of each element.
abbrev pub All : {E : Type 0} → (E → Type 0) → List E → Type 0
All P [] = Unit {0}
All P (x ∷ xs) = P x × All P xs

module _ {E : Type 0} (P : E → Type 0) where
  all_snoc : (xs : List E) (y : E) → All P xs → P y → All P (xs ++ (y ∷ []))
  all_snoc [] y h p = (p, tt)
  all_snoc (x ∷ xs) y h p = (h.0, all_snoc xs y h.1 p)

  all-at : (xs : List E) (n : ℕ) (d : E) → n < length xs → All P xs → P (get_or xs n d)
  all-at [] n d l h = absurd (omega arith)
  all-at (x ∷ xs) zero d l h = h.0
  all-at (x ∷ xs) (suc n) d l h = all-at xs n d (omega arith) h.1

  all-shared : (same : E → E → Bool) (xs ys : List E) → All P xs → All P (shared same xs ys)
  all-shared same [] ys h = tt
  all-shared same (x ∷ xs) [] h = tt
  all-shared same (x ∷ xs) (y ∷ ys) h =
      by_cond (All P) (same x y) (λ _. (h.0, all-shared same xs ys h.1)) (λ _. tt)

  all-upd : (f : ℕ → List E) (b : ℕ) (l : List E) → ((x : ℕ) → All P (f x)) → All P l → (x : ℕ) → All P (upd f b l x)
  all-upd f b l h k x = by_cond (All P) (eqb x b) (λ _. k) (λ _. h x)

-- P holds of every entry that a state keeps.
pub record Kept {E : Type 0} (P : E → Type 0) (s : State E) : Type 0 where
  pub logs : (b : ℕ) → All P (s.log b)
  pub committed : All P s.committed

-- What a step brings into the logs is a value with Q.
abbrev pub Brings : (ℕ → Type 0) → Writes → Type 0
Brings Q (appends b v) = Q v
Brings Q (commits b) = Unit {0}
Brings Q (receives b) = Unit {0}
Brings Q nothing = Unit {0}

module _ (𝓔 : Entries) (exact : IsExact 𝓔) (P : 𝓔.Entry → Type 0) (Q : ℕ → Type 0)
    (made : (v t : ℕ) → Q v → IsEpoch t → P (𝓔.make v t)) where
  open 𝓔 use {Entry, make, same}

  module _ {L : ℕ → ℕ} {s : State Entry} (i : Inv L s) (k : Bounds s) (m : Kept P s) where
    open s use {view, log, committed}

    keeps : (st : Step) → Brings Q (writes st) → Holds (checks (outline s) st) → Kept P (next 𝓔 s st)
    keeps (append b v) w h = record {
      logs = all-upd P log b _ m.logs
          (all_snoc P (log b) _ (m.logs b) (made v (view b).term w (view_in i k b (h 1)).term));
      committed = m.committed;
    }
    keeps (commit b) w h = record {
      logs = m.logs;
      committed = all_snoc P committed _ m.committed (all-at P (log b) (length committed) (make 0 0)
          (ltb→lt (length committed) (length (log b)) (h 12)) (m.logs b));
    }
    keeps (join b) w h = record {
      logs = all-upd P log b _ m.logs (all-shared P same (log b) (log (view b).leader) (m.logs b));
      committed = m.committed;
    }
    keeps (receive b) w h =
        let o = (view b).leader in
        record {
          logs = all-upd P log b _ m.logs (all_snoc P (log b) _ (m.logs b)
              (all-at P (log o) (length (log b)) (make 0 0)
              (ltb→lt (length (log b)) (length (log o)) (h 12)) (m.logs o)));
          committed = m.committed;
        }
    keeps (add b) w h = record { logs = m.logs; committed = m.committed }
    keeps (remove b) w h = record { logs = m.logs; committed = m.committed }
    keeps change_leader w h = record { logs = m.logs; committed = m.committed }
    keeps (refresh b) w h = record { logs = m.logs; committed = m.committed }
    keeps (acknowledge a b) w h = record { logs = m.logs; committed = m.committed }
    keeps refresh_controller w h = record { logs = m.logs; committed = m.committed }
    keeps read_leader w h = record { logs = m.logs; committed = m.committed }
    keeps (read b) w h = record { logs = m.logs; committed = m.committed }
    keeps set_normal w h = record { logs = m.logs; committed = m.committed }
    keeps (hear b) w h = record { logs = m.logs; committed = m.committed }
    keeps (install b) w h = record { logs = m.logs; committed = m.committed }
    keeps malformed w h = absurd (h 1)

    step-made : (st : Step) → Brings Q (writes st) → Kept P (step 𝓔 s st)
    step-made st w =
        by_cond (Kept P) (accepted (outline s) st) (λ t. keeps st w (facts (checks (outline s) st) t)) (λ _. m)

  pub opened-made : (o : Opening) → Kept P (opened o)
  opened-made o = record { logs = λ _. tt; committed = tt }

  run-made : {L : ℕ → ℕ} {s : State Entry} → Inv L s → Bounds s → Kept P s
      → (sts : List Step) → All (λ st. Brings Q (writes st)) sts → Kept P (run 𝓔 s sts)
  unfolding run
  run-made {L = L} {s = s} i k m [] w = m
  run-made {L = L} {s = s} i k m (st ∷ sts) w =
      run-made {L = (step_keeps 𝓔 exact i st).history} (step_keeps 𝓔 exact i st).inv (step-bounds 𝓔 exact i k st) (step-made i k m st w.0) sts w.1

  pub all_made : (o : Opening) → T (can_open o) → (sts : List Step) → All (λ st. Brings Q (writes st)) sts
      → Kept P (after 𝓔 o sts)
  all_made o real sts w = run-made (opened-inv o real) (opened-bounds o real) (opened-made o) sts w

-- For the calls' entries: their kept terms are in range.
abbrev pub TermIn : Entry → Type 0
TermIn x = IsEpoch x.term

terms-in : (xs : List Entry) → All TermIn xs → T (terms_in_range xs)
terms-in [] h = tt
terms-in (x ∷ xs) h = join-and (is_epoch x.term) (terms_in_range xs) (to-epoch x.term h.0) (terms-in xs h.1)

pub kept_in : {s : RowState} → Kept TermIn s → T (kept_in_range s)
kept_in {s} m =
    join-and (terms_in_range s.committed) (every (eight (λ b. terms_in_range (s.log b))))
    (terms-in s.committed m.committed)
    (to-eight (λ b. terms_in_range (s.log b)) (λ b _. terms-in (s.log b) (m.logs b)))

-- Any value will do.
abbrev Any : ℕ → Type 0
Any v = Unit {0}

any : (w : Writes) → Brings Any w
any (appends b v) = tt
any (commits b) = tt
any (receives b) = tt
any nothing = tt

anys : (sts : List Step) → All (λ st. Brings Any (writes st)) sts
anys [] = tt
anys (st ∷ sts) = (any (writes st), anys sts)

pub terms-opened : (o : Opening) → Kept TermIn (opened o)
terms-opened o = opened-made entries same-entry TermIn Any (λ v t _ h. h) o

pub terms-step : {L : ℕ → ℕ} {s : RowState} → Inv L s → Bounds s → Kept TermIn s → (st : Step)
    → Kept TermIn (step entries s st)
terms-step i k m st = step-made entries same-entry TermIn Any (λ v t _ h. h) i k m st (any (writes st))

pub terms-run : (o : Opening) → T (can_open o) → (sts : List Step) → Kept TermIn (after entries o sts)
terms-run o real sts = all_made entries same-entry TermIn Any (λ v t _ h. h) o real sts (anys sts)

-- Their values have 32 bits, if those of the records do.
abbrev pub Word : Entry → Type 0
Word x = x.value < 2 ^ 32

abbrev Small : ℕ → Type 0
Small v = v < 2 ^ 32

abbrev brings : Step → Type 0
brings st = Brings Small (writes st)

record-brings : (r : Record) → r.value < 2 ^ 32 → brings (step_of r)
record-brings r h = by-rule (λ _ st. brings st) (λ _. tt) r
    (h then tt then tt then tt then tt then tt then tt then tt then tt then tt then tt then tt then tt then tt then tt
    then tt)

records-bring : (rs : List Record) → All (λ r. r.value < 2 ^ 32) rs → All brings (steps_of rs)
records-bring [] w = tt
records-bring (r ∷ rs) w = (record-brings r w.0, records-bring rs w.1)

pub words-run : (o : Opening) → T (can_open o) → (rs : List Record) → All (λ r. r.value < 2 ^ 32) rs
    → Kept Word (after entries o (steps_of rs))
words-run o real rs w = all_made entries same-entry Word Small (λ v t h _. h) o real (steps_of rs) (records-bring rs w)

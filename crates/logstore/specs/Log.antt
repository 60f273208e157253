-- The log store, 512 places for each replica, and the committed list; each is two lists of numbers, the values and the
-- terms at the like places. Cited by the contracts of logstore, and by what speaks of a cluster's memory. Assumes
-- nothing.
use Rattle.std.specs.Prelude.{cond, List, [], ◌∷◌, ℕ, ◌+◌, ◌-◌, ◌*◌, eqb, take, drop}
use Rattle.model.specs.State.{Entry, entry}

-- The entries of two lists: "The epochs stand at the same places of a second store ... and a second list."
abbrev pub pairs : List ℕ → List ℕ → List Entry
pairs [] terms = []
pairs (v ∷ values) [] = []
pairs (v ∷ values) (t ∷ terms) = entry v t ∷ pairs values terms

-- Where the entry n of replica b's log stands in the store: in b's own 512 places, replica 1 first.
abbrev pub place : ℕ → ℕ → ℕ
place b n = 512 * (b - 1) + n

-- The log of replica b at the length n: of a store of entries, or of their values or terms alone.
abbrev pub log_of : {A : Type 0} → List A → ℕ → ℕ → List A
log_of store b n = take n (drop (512 * (b - 1)) store)

-- The shown list of document 01: the leader's log, or the receipts while no leader is named.
abbrev pub visible_of : {A : Type 0} → List A → List A → ℕ → ℕ → ℕ → List A
visible_of store committed leader len issued = cond (eqb leader 0) (take issued committed) (log_of store leader len)

-- Where that part begins, a block and an offset in bytes, if a number has w bytes: at the leader's first place of the
-- store, or where the committed list does.
abbrev pub visible_at : ℕ → ℕ × ℕ → ℕ × ℕ → ℕ → ℕ × ℕ
visible_at w store committed leader = cond (eqb leader 0) committed (store.0, store.1 + w * place leader 0)

-- Refusal 1 of a row and the lent places, the shown list and its terms. Cited by the contracts of shown and, through
-- `valid`, by every call's. Assumes nothing.
use Rattle.std.specs.Prelude.{Bool, cond, ◌&&◌, List, [], map, ℕ, eqb, length}
use Rattle.model.specs.State.{Entry}
use Rattle.model.specs.Ranges.{in_range, kept_in_range}
use Rattle.logstore.specs.Log.{visible_of, visible_at}
use Rattle.cluster.specs.declared.Cluster.{Cluster}
use Rattle.cluster.specs.Layout.{at, outline_of}
use Rattle.refinement.specs.Refinement.{Places, abs}

-- Not "a store not 4,096 or receipts not 512 long"; "a second store of 4,096 numbers and a second list of 512, with
-- refusal 1 as for the first pair".
abbrev pub lengths_fit : Places → Bool
lengths_fit p =
    eqb (length p.store) 4096 && eqb (length p.store2) 4096
    && eqb (length p.list) 512 && eqb (length p.list2) 512

-- Refusal 1, apart from a step's fields: those lengths, "a row with a number outside the ranges", leaders, and "the
-- kept epoch of an entry inside its log or the receipts"; "places past a length may hold anything".
abbrev pub valid : Cluster → Places → Bool
valid row p = lengths_fit p && in_range (outline_of row) && kept_in_range (abs row p)

-- "Shown list: the leader's log, or the receipts while no leader is named ... For a row that refusal 1 would turn away
-- it is an empty part."
abbrev pub shown : Cluster → Places → List Entry
shown row p = cond (valid row p)
    (cond (eqb row.registry.view.leader 0) (abs row p).committed ((abs row p).log row.registry.view.leader))
    []

-- "The shown list is the values, and the like part of the epochs can be had the same way."
abbrev pub shown_values : Cluster → Places → List ℕ
shown_values row p = map (λ x. x.value) (shown row p)

abbrev pub shown_terms : Cluster → Places → List ℕ
shown_terms row p = map (λ x. x.term) (shown row p)

-- That part of any numbers that stand at the places of the store and of the list.
abbrev pub shown_part : {A : Type 0} → Cluster → Places → List A → List A → List A
shown_part row p store list =
    let leader = row.registry.view.leader in
    cond (valid row p) (visible_of store list leader (at 0 row.len leader) row.issued) []

-- Where such a part begins, a block and an offset in bytes, if a number has w bytes and the store and the list of these
-- numbers begin at `s` and `l`: it is a part of what was lent, "not a copy". The empty part is one of the list.
abbrev pub shown_at : ℕ → Cluster → Places → ℕ × ℕ → ℕ × ℕ → ℕ × ℕ
shown_at w row p s l = cond (valid row p) (visible_at w s l row.registry.view.leader) l

-- The records that a writer makes of the lists of a row (document 02, Paper 7). Cited by the contracts of saving and
-- image. Assumes nothing.
use Rattle.std.specs.Prelude.{cond, List, [], ◌∷◌, ◌++◌, ℕ, suc, ◌+◌, eqb, length, take}
use Rattle.model.specs.State.{Entry}
use Rattle.logstore.specs.Log.{pairs, log_of}
use Rattle.cluster.specs.declared.Cluster.{Cluster}
use Rattle.cluster.specs.Layout.{at}
use Rattle.refinement.specs.Refinement.{Places}
use Rattle.text.specs.Text.{Text}
use Rattle.fields.specs.Fields.{two, four}

-- "A record is value (4), epoch (2), next record (2)": its numbers, and its eight bytes.
pub record Record : Type 0 where
  pub value : ℕ
  pub term : ℕ
  pub next : ℕ

abbrev pub record_of : ℕ → ℕ → ℕ → Record
record_of value term next = record { value = value; term = term; next = next }

abbrev pub record_bytes : Record → Text
record_bytes r = four r.value ++ (two r.term ++ two r.next)

unfoldable pub bytes_of : List Record → Text
bytes_of [] = []
bytes_of (r ∷ rs) = record_bytes r ++ bytes_of rs

-- "first 0 means an empty list": the first record of a list whose records are numbered from k on, "each in order",
abbrev pub first_for : ℕ → List Entry → ℕ
first_for k [] = 0
first_for k (x ∷ xs) = k

-- and these records: "next 0 ends the chain".
unfoldable pub records_for : ℕ → List Entry → List Record
records_for k [] = []
records_for k (x ∷ xs) = record_of x.value x.term (first_for (suc k) xs) ∷ records_for (suc k) xs

-- The same of lists that are numbered one after the other from k on: the first record of each, and all records.
unfoldable pub firsts_for : ℕ → List (List Entry) → List ℕ
firsts_for k [] = []
firsts_for k (xs ∷ xss) = first_for k xs ∷ firsts_for (k + length xs) xss

unfoldable pub records_all : ℕ → List (List Entry) → List Record
records_all k [] = []
records_all k (xs ∷ xss) = records_for k xs ++ records_all (k + length xs) xss

-- The lists of a row and its lent places: "board 1's log first and the receipts last".
unfoldable pub nine_lists : List ℕ → List ℕ → List ℕ → List ℕ → List ℕ → ℕ → List (List Entry)
nine_lists store store2 len list list2 count =
    let logged = pairs store store2 in
    log_of logged 1 (at 0 len 1) ∷ log_of logged 2 (at 0 len 2) ∷ log_of logged 3 (at 0 len 3)
    ∷ log_of logged 4 (at 0 len 4) ∷ log_of logged 5 (at 0 len 5) ∷ log_of logged 6 (at 0 len 6)
    ∷ log_of logged 7 (at 0 len 7) ∷ log_of logged 8 (at 0 len 8) ∷ take count (pairs list list2) ∷ []

abbrev pub lists_in : Cluster → Places → List (List Entry)
lists_in row p = nine_lists p.store p.store2 row.len p.list p.list2 row.issued

-- How many records they make, and by the lists' lengths alone: how many, and the first records from the number k on.
unfoldable pub sum_of : List (List Entry) → ℕ
sum_of [] = 0
sum_of (xs ∷ xss) = length xs + sum_of xss

unfoldable pub sum_by : List ℕ → ℕ
sum_by [] = 0
sum_by (n ∷ ns) = n + sum_by ns

unfoldable pub firsts_by : ℕ → List ℕ → List ℕ
firsts_by k [] = []
firsts_by k (n ∷ ns) = cond (eqb n 0) 0 k ∷ firsts_by (k + n) ns

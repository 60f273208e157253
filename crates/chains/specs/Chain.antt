-- Chains of records, by their numbers, and when those of an image are well linked: no word of a scratch. Cited by the
-- contracts of chains and loading, and by what speaks of an image. Assumes nothing.
use Rattle.std.specs.Prelude.{Bool, true, false, not, cond, ◌&&◌, ◌||◌, List, [], ◌∷◌, ◌++◌, map, ◌≡◌, ℕ, zero, suc, eqb, leb, length, Result, Ok, Err}
use Rattle.refusal.specs.declared.Refusal.{Refusal}
use Rattle.refusal.specs.declared.Refusal.TheVariants.{ImageLinks}
use Rattle.model.specs.Ranges as R
use Rattle.marks.specs.Marks.{Numbers, adding}

-- The chain that starts with the record k, at most `steps` records of it; `next` gives the record after each: "next 0
-- ends the chain, first 0 means an empty list".
unfoldable pub chain : (ℕ → ℕ) → ℕ → ℕ → List ℕ
chain next zero k = []
chain next (suc steps) zero = []
chain next (suc steps) (suc k) = suc k ∷ chain next steps (next (suc k))

-- The chain that starts with the record `first`. One that "passes 512 entries" is told by its 513th.
abbrev pub chain_of : (ℕ → ℕ) → ℕ → List ℕ
chain_of next first = chain next 513 first

-- It does not pass 512 entries.
abbrev pub is_short : List ℕ → Bool
is_short ks = leb (length ks) 512

-- The chains that start with these records.
unfoldable pub chains_of : (ℕ → ℕ) → List ℕ → List (List ℕ)
chains_of next firsts = map (chain_of next) firsts

-- A record of an image of n, "numbered from 1".
abbrev pub is_record : ℕ → ℕ → Bool
is_record n k = leb 1 k && leb k n

-- What chains meet, one after the other.
unfoldable pub joined : List (List ℕ) → List ℕ
joined [] = []
joined (ks ∷ kss) = ks ++ joined kss

-- The record k is among them.
unfoldable pub has : List ℕ → ℕ → Bool
has [] k = false
has (j ∷ js) k = eqb k j || has js k

-- None is there twice.
unfoldable pub distinct : List ℕ → Bool
distinct [] = true
distinct (k ∷ ks) = not (has ks k) && distinct ks

-- The numbers 1 to n are all in the set m.
unfoldable pub up_to : ℕ → Numbers → Bool
up_to zero m = true
up_to (suc n) m = m (suc n) && up_to n m

-- Not "a chain points past the last record or passes 512 entries, or a record is met twice, by one chain or two, or not
-- at all" (error 19), of the chains of an image of n records.
unfoldable pub well_linked : ℕ → List (List ℕ) → Bool
well_linked n kss =
    R.every (map is_short kss)
    && (R.every (map (is_record n) (joined kss)) && (distinct (joined kss) && up_to n (has (joined kss))))

-- What is answered of chains that are well linked or not.
abbrev pub linking : Bool → Result Unit Refusal
linking ok = cond ok (Ok tt) (Err ImageLinks)

-- One chain after others (for the contract of the walk alone)

-- The chain ks after those that met the records `met`: its records are the image's, new, and none of them twice.
unfoldable pub linked : ℕ → Numbers → List ℕ → Bool
linked n met [] = true
linked n met (k ∷ ks) = is_record n k && (not (met k) && linked n (adding k met) ks)

-- The records met after it.
unfoldable pub adding_all : List ℕ → Numbers → Numbers
adding_all [] met = met
adding_all (k ∷ ks) met = adding_all ks (adding k met)

-- It gives no reason for error 19 so far.
abbrev pub good : ℕ → Numbers → List ℕ → Bool
good n met ks = linked n met ks && is_short ks

-- What a walk of it answers, its length or error 19, and what is met after a good one.
pub record Walked (n : ℕ) (ks : List ℕ) (met met' : Numbers) (r : Result ℕ Refusal) : Type 0 where
  pub answer : r ≡ cond (good n met ks) (Ok (length ks)) (Err ImageLinks)
  pub marks : good n met ks ≡ true → met' ≡ adding_all ks met

-- All of xs pass the test p: what the model's `every` says of their tests (`every-is`).
unfoldable pub every : {A : Type 0} → (A → Bool) → List A → Bool
every p [] = true
every p (x ∷ xs) = p x && every p xs

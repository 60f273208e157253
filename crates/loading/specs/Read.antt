-- What a reader takes from the chains of an image. Cited by the contracts of loading, and by what reads or writes an
-- image. Assumes nothing.
use Rattle.std.specs.Prelude.{Bool, true, cond, List, [], ◌∷◌, map, ◌≡◌, ℕ, ◌+◌, ◌≤◌, length, replicate, Result, Ok, Err}
use Rattle.std.proofs.lemmas.List.Edits.{sets}
use Rattle.refusal.specs.declared.Refusal.{Refusal}
use Rattle.refusal.specs.declared.Refusal.TheVariants.{ImageLinks}
use Rattle.refinement.specs.Refinement.{Places}
use Rattle.loading.specs.declared.Lengths.{Lengths}
use Rattle.chains.specs.Image.{next_of, list_of, firsts_from, values_of, epochs_of}
use Rattle.chains.specs.Chain.{chains_of, is_record, every}

-- The chains of the eight boards,
abbrev pub boards_of : List ℕ → List (List ℕ)
boards_of image = chains_of (next_of image) (firsts_from image 0 8)

-- and that of the receipts.
abbrev pub receipts_of : List ℕ → List ℕ
receipts_of image = list_of image 8

-- A chain that can be copied: its records are the image's, of n, and it does not pass 512 of them.
pub record Sound (n : ℕ) (ks : List ℕ) : Type 0 where
  pub records : every (is_record n) ks ≡ true
  pub short : length ks ≤ 512

-- The chain ks of an image, stored from place at on: its values in v, its epochs in e, and its length r.
pub record Copied (image ks : List ℕ) (at : ℕ) (v v' e e' : List ℕ) (r : ℕ) : Type 0 where
  pub count : r ≡ length ks
  pub values : v' ≡ sets v at (values_of image ks)
  pub epochs : e' ≡ sets e at (epochs_of image ks)

-- Lists stored in parts of 512 places, one after the other from place at on. Of a part only as many places as its list
-- has are written: "an accepted read changes no place past a log's or the receipts' length".
unfoldable pub laid : List ℕ → ℕ → List (List ℕ) → List ℕ
laid s at [] = s
laid s at (vs ∷ vss) = laid (sets s at vs) (at + 512) vss

-- The boards' lists in the store v and the second store e, and their lengths.
pub record Filled (image v v' e e' lens' : List ℕ) : Type 0 where
  pub values : v' ≡ laid v 0 (map (values_of image) (boards_of image))
  pub epochs : e' ≡ laid e 0 (map (epochs_of image) (boards_of image))
  pub lens : lens' ≡ map length (boards_of image)

-- The lengths of the nine lists.
abbrev pub lengths_in : List ℕ → Lengths
lengths_in image = record { boards = map length (boards_of image); receipts = length (receipts_of image) }

-- The whole reading of an image, well linked or not (ok), into the lent places p, with the scratch s: the answer r is
-- the lists' lengths or error 19. An image that is refused changes "only the scratch"; in any case "the whole scratch
-- ends as zeros".
pub record Taken (ok : Bool) (image : List ℕ) (p p' : Places) (s s' : List ℕ) (r : Result Lengths Refusal)
    : Type 0 where
  pub answer : r ≡ cond ok (Ok (lengths_in image)) (Err ImageLinks)
  pub values : p'.store ≡ cond ok (laid p.store 0 (map (values_of image) (boards_of image))) p.store
  pub epochs : p'.store2 ≡ cond ok (laid p.store2 0 (map (epochs_of image) (boards_of image))) p.store2
  pub list : p'.list ≡ cond ok (sets p.list 0 (values_of image (receipts_of image))) p.list
  pub dates : p'.list2 ≡ cond ok (sets p.list2 0 (epochs_of image (receipts_of image))) p.list2
  pub scratch : s' ≡ replicate (length s) 0

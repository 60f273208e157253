-- The lists of an image, byte for byte: "258 bytes of head and 8-byte records numbered from 1". Cited by the contracts
-- of chains and loading, and by what speaks of an image. Assumes nothing.
use Rattle.std.specs.Prelude.{Bool, cond, List, [], ◌∷◌, map, ℕ, zero, suc, ◌+◌, ◌*◌, eqb}
use Rattle.model.specs.Ranges.{is_epoch}
use Rattle.fields.specs.Fields.{two_at, four_at}
use Rattle.chains.specs.Chain.{chain_of, chains_of, up_to, well_linked}

-- "A record is value (4), epoch (2), next record (2)": the record k stands at 258 + 8 * (k - 1). Its value,
abbrev pub value_of : List ℕ → ℕ → ℕ
value_of image k = four_at image (8 * k + 250)

-- its epoch,
abbrev pub epoch_of : List ℕ → ℕ → ℕ
epoch_of image k = two_at image (8 * k + 254)

-- and the record after it.
abbrev pub next_of : List ℕ → ℕ → ℕ
next_of image k = two_at image (8 * k + 256)

-- The first record of the list b, 0 to 7 for the boards and 8 for the receipts: the head has 26 bytes for each board
-- from 48 on, the last two of them "a 2-byte first record"; "then the receipts' first record", at 256.
abbrev pub first_of : List ℕ → ℕ → ℕ
first_of image b = cond (eqb b 8) (two_at image 256) (two_at image (26 * b + 72))

-- The chain of the list b.
abbrev pub list_of : List ℕ → ℕ → List ℕ
list_of image b = chain_of (next_of image) (first_of image b)

-- The first records of m lists from the list b on,
unfoldable pub firsts_from : List ℕ → ℕ → ℕ → List ℕ
firsts_from image b zero = []
firsts_from image b (suc m) = first_of image b ∷ firsts_from image (suc b) m

-- and of all nine.
abbrev pub firsts_of : List ℕ → List ℕ
firsts_of image = firsts_from image 0 9

-- The values of a chain's records,
abbrev pub values_of : List ℕ → List ℕ → List ℕ
values_of image ks = map (value_of image) ks

-- and their epochs.
abbrev pub epochs_of : List ℕ → List ℕ → List ℕ
epochs_of image ks = map (epoch_of image) ks

-- No record's epoch, met by a chain or not, is "a number outside its range": a part of error 18.
abbrev pub epochs_fit : ℕ → List ℕ → Bool
epochs_fit n image = up_to n (λ k. is_epoch (epoch_of image k))

-- Error 19 does not hold of an image of n records.
abbrev pub holds : ℕ → List ℕ → Bool
holds n image = well_linked n (chains_of (next_of image) (firsts_of image))

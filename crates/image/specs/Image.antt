-- The image of a row (document 02, Paper 7): that of a state, byte for byte, and what an image says, its verdict or a
-- row and nine lists. The head stands in the crate head, records and chains in chains, their writing in saving, lists
-- in the lent places in loading. Cited by the contracts of image. Assumes nothing.
use Rattle.std.specs.Prelude.{Bool, cond, ◌&&◌, List, [], ◌∷◌, ◌++◌, map, ℕ, ◌+◌, ◌-◌, ◌*◌, ◌/◌, leb, eqb, length, replicate}
use Rattle.model.specs.State.{Entry, RowState, outline}
use Rattle.model.specs.Ranges.{in_range}
use Rattle.text.specs.Text.{Text, over}
use Rattle.cluster.specs.declared.Cluster.{Cluster}
use Rattle.cluster.specs.Layout.{outline_of}
use Rattle.refinement.specs.Refinement.{Places, lent}
use Rattle.head.specs.Head.{head_bytes, row_at, codes_fit}
use Rattle.chains.specs.Image.{epochs_fit, holds, values_of, epochs_of}
use Rattle.loading.specs.Read.{boards_of, receipts_of, laid}
use Rattle.saving.specs.Saved.{firsts_for, records_all, bytes_of}

-- Writing

-- "The writer numbers board 1's log first and the receipts last": the nine lists of a state.
abbrev pub lists_of : RowState → List (List Entry)
lists_of s =
    s.log 1 ∷ s.log 2 ∷ s.log 3 ∷ s.log 4 ∷ s.log 5 ∷ s.log 6 ∷ s.log 7 ∷ s.log 8 ∷ s.committed ∷ []

-- "258 bytes of head and 8-byte records numbered from 1", the lists' one after the other, "each in order".
unfoldable pub image_of : RowState → Text
image_of s = head_bytes (outline s) (firsts_for 1 (lists_of s)) ++ bytes_of (records_all 1 (lists_of s))

-- Reading

-- How many records an image has.
abbrev pub records_in : Text → ℕ
records_in image = (length image - 258) / 8

-- Not "17 the length is not 258 plus 8 times 0 to 4,608",
abbrev pub length_fits : Text → Bool
length_fits image = eqb (length image) (8 * records_in image + 258) && leb (records_in image) 4608

-- nor "18 a number outside its range, a zero byte that is not 0, or a row that refusal 1 would turn away": the row as
-- the head says it and the epoch of every record, met by a chain or not. (An image has no lengths, so they are 0 here.
-- That no list passes 512 is the next one's; so refusal 1 lets the row that is returned through, `TakenFits`.)
unfoldable pub numbers_fit : Text → Bool
numbers_fit image =
    codes_fit image && in_range (outline_of (row_at image (replicate 8 0) 0)) && epochs_fit (records_in image) image

-- nor "19 a chain points past the last record or passes 512 entries, or a record is met twice, by one chain or two, or
-- not at all".
unfoldable pub links_fit : Text → Bool
links_fit image = holds (records_in image) image

-- The first of these that is wrong, "in that order"; 0 where the image is a row's.
abbrev pub verdict : Text → ℕ
verdict image = cond (length_fits image) (cond (numbers_fit image) (cond (links_fit image) 0 19) 18) 17

-- The row that an image says: its head, and the lengths of its chains.
unfoldable pub row_in : Text → Cluster
row_in image = row_at image (map length (boards_of image)) (length (receipts_of image))

-- The lent places with the lists of an image: each in its own part, and every place past a log's or the receipts'
-- length as it was.
unfoldable pub places_in : Text → Places → Places
places_in image p = lent
    (laid p.store 0 (map (values_of image) (boards_of image)))
    (laid p.store2 0 (map (epochs_of image) (boards_of image)))
    (over p.list 0 (values_of image (receipts_of image)))
    (over p.list2 0 (epochs_of image (receipts_of image)))

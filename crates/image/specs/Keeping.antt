-- The calls that keep a row (document 02, Papers 7 and 8): what the writer and the reader hand back and leave, and that
-- a written row reads back as the same row. Cited by the contracts of image and by the links of runs. Assumes nothing.
use Rattle.std.specs.Prelude.{Bool, true, cond, ◌&&◌, ◌≢◌, ◌≡◌, ℕ, ◌<◌, ◌≤◌, leb, eqb, length, get_or, take, replicate, Result, Ok, Err}
use Rattle.refusal.specs.declared.Refusal.{Refusal}
use Rattle.refusal.specs.declared.Refusal.TheVariants.{Invalid, Room}
use Rattle.text.specs.Text.{Text, over}
use Rattle.marks.specs.Marks.{room}
use Rattle.cluster.specs.declared.Cluster.{Cluster}
use Rattle.cluster.specs.Layout.{at}
use Rattle.refinement.specs.Refinement.{Places, abs}
use Rattle.refinement.specs.Rows.{Typed}
use Rattle.logstore.specs.Log.{place}
use Rattle.shown.specs.Shown.{lengths_fit, valid}
pub use Rattle.image.specs.Loaded.{Loaded, loaded}
use Rattle.image.specs.Image.{image_of, verdict, row_in, places_in}

-- The writer, lent a slice whose bytes are `out`: it answers n and leaves out'. "Refusal 1 ... comes first, then 3 for
-- a slice too short; both change nothing": else the image's length, the image, and every byte past it as it was.
pub record Saves (row : Cluster) (p : Places) (out : Text) (n : ℕ) (out' : Text) : Type 0 where
  pub answer : n ≡ cond (valid row p)
      (cond (leb (length (image_of (abs row p))) (length out)) (length (image_of (abs row p))) 3) 1
  pub left : out' ≡ cond (valid row p && leb (length (image_of (abs row p))) (length out))
      (over out 0 (image_of (abs row p))) out

-- The same answer as a result.
abbrev pub saved : Cluster → Places → Text → Result ℕ Refusal
saved row p out =
    cond (valid row p)
    (cond (leb (length (image_of (abs row p))) (length out)) (Ok (length (image_of (abs row p)))) (Err Room)) (Err Invalid)

-- Past "refusal 1, in reading for the lent lengths alone", and 3: "576 bytes of scratch or more" (Paper 8; `room`).
abbrev pub lent_enough : Places → Text → Bool
lent_enough p scratch = lengths_fit p && leb room (length scratch)

-- The image is taken.
abbrev pub taken : Text → Places → Text → Bool
taken image p scratch = lent_enough p scratch && eqb (verdict image) 0

-- The reader, with an image, the row `given`, the lent places p and a scratch s: it returns x and leaves p' and s'.
pub record Loads (image : Text) (given : Cluster) (p : Places) (s : Text) (x : Loaded) (p' : Places) (s' : Text)
    : Type 0 where
  pub answer : x.answer ≡ cond (lengths_fit p) (cond (leb room (length s)) (verdict image) 3) 1
  -- The image's row, or the one that was given: a refusal changes nothing of it,
  pub row : x.row ≡ cond (taken image p s) (row_in image) given
  -- nor a lent place.
  pub places : p' ≡ cond (taken image p s) (places_in image p) p
  -- "Past refusal 3 the whole scratch ends as zeros."
  pub scratch : s' ≡ cond (lent_enough p s) (replicate (length s) 0) s

-- What is claimed

-- "A written row reads back as the same row": whatever the places it is read into hold.
unfoldable pub ReadsBack : Type 0
ReadsBack = (row : Cluster) (p : Places) → Typed row → valid row p ≡ true
    → (verdict (image_of (abs row p)) ≡ 0) × (row_in (image_of (abs row p)) ≡ row)
    × ((q : Places) → lengths_fit q ≡ true → abs row (places_in (image_of (abs row p)) q) ≡ abs row p)

-- The same of the calls: where the writer took the row and the reader was lent enough, the reader takes the image that
-- was written, whatever its places and its scratch hold, and gives the row and its state.
unfoldable pub Resumes : Type 0
Resumes = (row : Cluster) (p : Places) → Typed row
    → (out : Text) (n : ℕ) (out' : Text) → Saves row p out n out' → n ≢ 1 → n ≢ 3
    → (given : Cluster) (q : Places) (s : Text) (x : Loaded) (q' : Places) (s' : Text)
    → Loads (take n out') given q s x q' s' → x.answer ≢ 1 → x.answer ≢ 3
    → (x.answer ≡ 0) × (x.row ≡ row) × (abs row q' ≡ abs row p)

-- No length of an image could be taken for a refusal, and 37,122 bytes always suffice.
unfoldable pub ImagesTell : Type 0
ImagesTell = (row : Cluster) (p : Places) → valid row p ≡ true
    → (258 ≤ length (image_of (abs row p))) × (length (image_of (abs row p)) ≤ 37122)

-- Every image that is taken gives a row that refusal 1 lets through, with its lists in the places.
unfoldable pub TakenFits : Type 0
TakenFits = (image : Text) (p : Places) → verdict image ≡ 0 → lengths_fit p ≡ true
    → valid (row_in image) (places_in image p) ≡ true

-- "An accepted read changes no place past a log's or the receipts' length": the place i of board b's part.
unfoldable pub PastLeft : Type 0
PastLeft = (image : Text) (p : Places) → verdict image ≡ 0 → lengths_fit p ≡ true
    → ((b i : ℕ) → 1 ≤ b → b ≤ 8 → at 0 (row_in image).len b ≤ i → i < 512
    → (get_or (places_in image p).store (place b i) 0 ≡ get_or p.store (place b i) 0)
    × (get_or (places_in image p).store2 (place b i) 0 ≡ get_or p.store2 (place b i) 0))
    × ((i : ℕ) → (row_in image).issued ≤ i
    → (get_or (places_in image p).list i 0 ≡ get_or p.list i 0)
    × (get_or (places_in image p).list2 i 0 ≡ get_or p.list2 i 0))

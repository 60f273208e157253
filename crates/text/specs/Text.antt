-- Texts and how they are stored in a slice. Cited by the contracts of text, and by all that speaks of bytes.
-- Assumes nothing.
-- io's `digits` is not used: it takes the number of places, which no definition there gives for n, and io's writer
-- fills an array of 20 from its start.
use Rattle.std.specs.Prelude.{cond, List, [], ◌∷◌, ◌++◌, ◌≡◌, ℕ, zero, suc, ◌+◌, ◌/◌, ◌%◌, ◌≤◌, leb, ltb, length, Result, Ok, Err}
use Rattle.std.proofs.lemmas.List.Edits.{sets}
use Rattle.refusal.specs.declared.Refusal.{Refusal}
use Rattle.refusal.specs.declared.Refusal.TheVariants.{Room}
use Rattle.text.specs.declared.Page.{Page}

-- A text is a list of bytes; a slice's contents are one.
abbrev pub Text : Type 0
Text = List ℕ

-- The text d with the bytes of xs stored one after the other from place at on; a byte past d's end is lost.
unfoldable pub over : Text → ℕ → Text → Text
over d at xs = sets d at xs

-- The text xs was written into d at place at: d became e, and r is the place after xs.
pub record Wrote (d : Text) (at : ℕ) (xs e : Text) (r : ℕ) : Type 0 where
  pub next : r ≡ at + length xs
  pub text : e ≡ over d at xs

-- A text for a slice whose bytes are `out`: its length and the slice with it, or refusal 3 and the slice as it was.
pub record Delivered (text out out' : Text) (r : ℕ) : Type 0 where
  pub answer : r ≡ cond (leb (length text) (length out)) (length text) 3
  pub left : out' ≡ cond (leb (length text) (length out)) (over out 0 text) out

-- The same, told by a result.
pub record Delivers (text out out' : Text) (r : Result ℕ Refusal) : Type 0 where
  pub answer : r ≡ cond (leb (length text) (length out)) (Ok (length text)) (Err Room)
  pub left : out' ≡ cond (leb (length text) (length out)) (over out 0 text) out

-- The texts of 0 to n - 1, one after the other.
unfoldable pub each_of : (ℕ → Text) → ℕ → Text
each_of text zero = []
each_of text (suc n) = each_of text n ++ text n

-- The decimal digits of n, if k are enough; byte 48 is 0. The `let` lets antt compute only the digits that there are.
unfoldable pub digits_within : ℕ → ℕ → Text
digits_within zero n = []
digits_within (suc k) n =
    let front = digits_within k (n / 10) in cond (ltb n 10) ((48 + n) ∷ []) (front ++ ((48 + n % 10) ∷ []))

-- The decimal digits of n, with no leading zero, 0 as one digit: n + 1 are always enough.
unfoldable pub digits : ℕ → Text
digits n = digits_within (suc n) n

-- The text xs was written on the page p, which became q: at its place, over the slice that it was lent.
pub record Puts (p : Page) (xs : Text) (q : Page) : Type 0 where
  pub wrote : Wrote p.out.now p.at xs q.out.now q.at
  pub same : q.out.ghost_name ≡ p.out.ghost_name

-- The page p has room for the text xs.
abbrev pub HasRoom : Page → Text → Type 0
HasRoom p xs = p.at + length xs ≤ length p.out.now

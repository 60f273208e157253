-- Eight texts, one after the other, as a loop writes them. Assumes nothing.
use mathlib.Core.List.{append_assoc}
use mathlib.Core.Path.{◌≡◌, refl, sym, ap, ◌∙◌}
use Prim.Native.Nat.{ℕ, ◌+◌, ◌<◌}
use lib.ListN.{length}
use Rattle.text.specs.declared.Page.{Page}
use Rattle.text.specs.Text.{Text, Puts, HasRoom, each_of}
use Rattle.text.proofs.Laws.{puts_as, puts-length, room_as, room-next}
use Rattle.head.specs.Head.{texts}

-- Where a page stands after a text, and that its slice is as long as before.
pub went : {p q : Page} (xs : Text) → Puts p xs q → (q.at ≡ p.at + length xs) × (length q.out.now ≡ length p.out.now)
went xs w = (w.wrote.next, puts-length w)

-- The texts of boards 1 to i.
abbrev pub up_to : (ℕ → Text) → ℕ → Text
up_to f i = each_of (λ k. f (k + 1)) i

up_to-eight : (f : ℕ → Text) → up_to f 8 ≡ texts f
unfolding each_of
up_to-eight f = simp append_assoc refl

-- Room for all is room for the next one,
pub eight-room : {p q : Page} (f : ℕ → Text) (i : ℕ) → i < 8 → Puts p (up_to f i) q → HasRoom p (texts f)
    → HasRoom q (f (i + 1))
eight-room {p} f i h w r = room-next (λ k. f (k + 1)) i 8 h w (room_as p (sym (up_to-eight f)) r)

-- and after eight they are all.
pub eight-all : {p q : Page} (f : ℕ → Text) (i : ℕ) → i ≡ 8 → Puts p (up_to f i) q → Puts p (texts f) q
eight-all f i e w = puts_as (ap (up_to f) e ∙ up_to-eight f) w

-- An array that a closure made, which changes nothing that it captured, is the list of its results. Assumes nothing.
use Rattle.std.proofs.Common.{◌≡◌, ℕ, zero, suc, ◌+◌, ◌<◌, ◌≤◌, Bool, true, false, List, map, get_or, refl, subst, ◌∙◌, arith, eqb}
use Rattle.std.specs.List.{range_with_len}
use Rattle.std.specs.Array.{IsFromFnResult, IsFromFnResultFrom}
use Rattle.std.proofs.lemmas.List.FromFn.{fill_by_all}
use borrow.Author.Tests.{eqb-true, eqb-false}
use denote.Param.Members.{Mut, Called}

module _ {F B : Type 0} (g : Mut F (ℕ × Unit {0}) B) (f : F) (ys : List B) (n : ℕ) (h : ℕ → B) (d : B)
    (k : (x : ℕ) (y : B) (q : F) → Called g f (x, tt) y q → (q ≡ f) × (y ≡ h x)) where
  at-place : (i m : ℕ) → IsFromFnResultFrom g f ys i m → (j : ℕ) → i ≤ j → j < i + m → get_or ys j d ≡ h j
  at-place i zero r j low high = absurd (omega arith)
  at-place i (suc m) (q, y, e, call, r) j low high =
      let r' = subst (λ x. IsFromFnResultFrom g x ys (i + 1) m) (k i y q call).0 r in
      go (eqb j i) refl (λ p. at-place (i + 1) m r' j p (omega arith))
    where
      go : (t : Bool) → eqb j i ≡ t → (i + 1 ≤ j → get_or ys j d ≡ h j) → get_or ys j d ≡ h j
      go true s f = let p = eqb-true j i s in rw p (e.1 d ∙ (k i y q call).1)
      go false s f = let p = eqb-false j i s in f (omega arith)

  pub made : IsFromFnResult g f ys n → ys ≡ map h (range_with_len 0 n)
  made r = fill_by_all h ys n d r.long (λ j l. at-place 0 n r.each j (omega arith) (omega arith))

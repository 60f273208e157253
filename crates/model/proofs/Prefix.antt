-- Beginnings of lists. Assumes nothing.
use mathlib.Core.Bool.{Bool, true, false, cond}
use mathlib.Core.List.{List, [], ◌∷◌, ◌++◌, append_assoc, append-nil}
use mathlib.Core.Path.{◌≡◌, refl, sym, ap, ◌∙◌}
use Prim.Native.Nat.{ℕ, suc, ◌+◌, ◌≤◌, ◌<◌}
use native.Mathlib.Omega.{arith}
use lib.Dec.{T}
use lib.ListN.{length, get_or, take, drop, length-append, take-append-drop, get_or-append}
use lib.Seq.{get_or-append_seam, append_snoc, take-append-le}
use Rattle.model.specs.Prelude.{◌⊑◌}
use Rattle.model.specs.Steps.{shared}

module _ {E : Type 0} where
  pub begins-refl : (xs : List E) → xs ⊑ xs
  begins-refl xs = record { rest = []; is = append-nil xs }

  pub begins-nil : (xs : List E) → [] ⊑ xs
  begins-nil xs = record { rest = xs; is = refl }

  pub begins-more : (xs zs : List E) → xs ⊑ xs ++ zs
  begins-more xs zs = record { rest = zs; is = refl }

  pub begins-take : (n : ℕ) (xs : List E) → take n xs ⊑ xs
  begins-take n xs = record { rest = drop n xs; is = take-append-drop n xs }

  pub begins-trans : {xs ys zs : List E} → xs ⊑ ys → ys ⊑ zs → xs ⊑ zs
  begins-trans {xs} {ys} {zs} h k =
      record {
        rest = h.rest ++ k.rest;
        is = sym (append_assoc xs h.rest k.rest) ∙ ap (λ l. l ++ k.rest) h.is ∙ k.is;
      }

  pub begins-length : {xs ys : List E} → xs ⊑ ys → length xs ≤ length ys
  begins-length {xs} {ys} h = omega (arith, length-append xs h.rest, ap length h.is)

  -- a beginning is not changed by what comes after it
  pub take-grown : {xs ys : List E} (n : ℕ) → xs ⊑ ys → n ≤ length xs → take n ys ≡ take n xs
  take-grown {xs} {ys} n h l = ap (take n) (sym h.is) ∙ take-append-le n xs h.rest l

  compare : (xs us ys vs : List E) → xs ++ us ≡ ys ++ vs → length xs ≤ length ys → xs ⊑ ys
  compare [] us ys vs p h = begins-nil ys
  compare (x ∷ xs) us [] vs p h = absurd (omega arith)
  compare (x ∷ xs) us (y ∷ ys) vs p h =
      let q : x ≡ y = cc in
      let r : xs ++ us ≡ ys ++ vs = cc in
      let k = compare xs us ys vs r (omega arith) in
      let e : xs ++ k.rest ≡ ys = k.is in
      record { rest = k.rest; is = cc }

  -- two beginnings of one list compare by length
  pub begins-compare : {xs ys zs : List E} → xs ⊑ zs → ys ⊑ zs → length xs ≤ length ys → xs ⊑ ys
  begins-compare {xs} {ys} {zs} h k l = compare xs h.rest ys k.rest (h.is ∙ sym k.is) l

  one_more : (xs us ys : List E) (d : E) → xs ++ us ≡ ys → length xs < length ys → xs
      ++ (get_or ys (length xs) d ∷ []) ⊑ ys
  one_more xs [] ys d p h = absurd (omega (arith, length-append xs [], ap length p))
  one_more xs (u ∷ us) ys d p h = record {
    rest = us;
    is = ap (λ l. (xs ++ (get_or l (length xs) d ∷ [])) ++ us) (sym p)
        ∙ ap (λ a. (xs ++ (a ∷ [])) ++ us) (get_or-append_seam xs u us d) ∙ append_snoc xs u us ∙ p;
  }

  -- one entry more
  pub begins-next : {xs ys : List E} (d : E) → xs ⊑ ys → length xs < length ys → xs ++ (get_or ys (length xs) d ∷ []) ⊑ ys
  begins-next {xs} {ys} d h l = one_more xs h.rest ys d h.is l

  -- the entry of a beginning is the entry of the list
  pub begins-at : {xs ys : List E} (d : E) (n : ℕ) → xs ⊑ ys → n < length xs → get_or xs n d ≡ get_or ys n d
  begins-at {xs} {ys} d n h l = sym (get_or-append xs h.rest d n l) ∙ ap (λ l. get_or l n d) h.is

  pub length-snoc : (xs : List E) (x : E) → length (xs ++ (x ∷ [])) ≡ suc (length xs)
  length-snoc xs x = omega (arith, length-append xs (x ∷ []))

  -- what is shared with a list is a beginning of it
  pub shared-begins : (same : E → E → Bool) → ((x y : E) → T (same x y) → x ≡ y) → (xs ys : List E)
      → shared same xs ys ⊑ ys
  shared-begins same law [] ys = begins-nil ys
  shared-begins same law (x ∷ xs) [] = begins-nil []
  shared-begins same law (x ∷ xs) (y ∷ ys) = go (same x y) (law x y) (shared-begins same law xs ys)
    where
      go : (t : Bool) → (T t → x ≡ y) → shared same xs ys ⊑ ys → cond t (x ∷ shared same xs ys) [] ⊑ (y ∷ ys)
      go true f k =
          let e : x ≡ y = f tt in let q : shared same xs ys ++ k.rest ≡ ys = k.is in
          record { rest = k.rest; is = cc }
      go false f k = begins-nil (y ∷ ys)

  -- and no longer than the other
  pub shared-length : (same : E → E → Bool) (xs ys : List E) → length (shared same xs ys) ≤ length xs
  shared-length same [] ys = omega arith
  shared-length same (x ∷ xs) [] = omega arith
  shared-length same (x ∷ xs) (y ∷ ys) = go (same x y) (shared-length same xs ys)
    where
      go : (t : Bool) → length (shared same xs ys) ≤ length xs
          → length (cond t (x ∷ shared same xs ys) []) ≤ suc (length xs)
      go true h = omega arith
      go false h = omega arith

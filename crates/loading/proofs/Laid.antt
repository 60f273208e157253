-- What stands where after lists were stored in parts of 512 places. Assumes nothing.
use mathlib.Core.List.{List, [], ◌∷◌}
use mathlib.Core.Path.{◌≡◌, refl, sym, ap, ◌∙◌}
use Prim.Native.Nat.{ℕ, zero, suc, ◌+◌, ◌*◌, ◌<◌, ◌≤◌}
use native.Mathlib.Nat.{not-suc-le-zero, add-zero}
use native.Mathlib.Omega.{arith}
use lib.ListN.{length, get_or, take, drop, set, length-set, length-drop}
use lib.Seq.{sets, length-sets, get_or-set_same, get_or-set_other, get_or-take, get_or-drop, ext_get_or, length-take-le}
use Rattle.loading.specs.Read.{laid}

-- One list

module _ (s : List ℕ) (at : ℕ) (j : ℕ) (d : j ≡ at → ⊥) (v : ℕ) where
  other : get_or (set s at v) j 0 ≡ get_or s j 0
  other = get_or-set_other s at j v 0 d

-- No place before it is another,
pub sets-before : (s : List ℕ) (at : ℕ) (vs : List ℕ) (j : ℕ) → j < at → get_or (sets s at vs) j 0 ≡ get_or s j 0
sets-before s at [] j h = refl
sets-before s at (v ∷ vs) j h =
    sets-before (set s at v) (suc at) vs j (omega arith) ∙ other s at j (λ (e : j ≡ at). omega arith) v

-- nor one after it;
pub sets-after : (s : List ℕ) (at : ℕ) (vs : List ℕ) (j : ℕ) → at + length vs ≤ j → get_or (sets s at vs) j 0 ≡ get_or s j 0
sets-after s at [] j h = refl
sets-after s at (v ∷ vs) j h =
    sets-after (set s at v) (suc at) vs j (omega arith) ∙ other s at j (λ (e : j ≡ at). omega arith) v

-- within, its elements stand.
pub sets-within : (s : List ℕ) (at : ℕ) (vs : List ℕ) (i : ℕ) → i < length vs → at + length vs ≤ length s
    → get_or (sets s at vs) (at + i) 0 ≡ get_or vs i 0
sets-within s at [] i h l = absurd (not-suc-le-zero h)
sets-within s at (v ∷ vs) zero h l =
    rw (add-zero at, sets-before (set s at v) (suc at) vs at (omega arith), get_or-set_same s at v 0 (omega arith))
sets-within s at (v ∷ vs) (suc i) h l =
    let e : at + suc i ≡ suc at + i = omega arith in
    rw e (sets-within (set s at v) (suc at) vs i (omega arith) (rw (length-set s at v) (omega arith)))

-- All lists

-- No list has more than 512 elements.
unfoldable pub AllShort : List (List ℕ) → Type 0
AllShort [] = Unit {0}
AllShort (vs ∷ vss) = (length vs ≤ 512) × AllShort vss

laid-before : (s : List ℕ) (at : ℕ) (vss : List (List ℕ)) (j : ℕ) → j < at → get_or (laid s at vss) j 0 ≡ get_or s j 0
unfolding laid
laid-before s at [] j h = refl
laid-before s at (vs ∷ vss) j h = laid-before (sets s at vs) (at + 512) vss j (omega arith) ∙ sets-before s at vs j h

pub laid-length : (s : List ℕ) (at : ℕ) (vss : List (List ℕ)) → length (laid s at vss) ≡ length s
unfolding laid
laid-length s at [] = refl
laid-length s at (vs ∷ vss) = laid-length (sets s at vs) (at + 512) vss ∙ length-sets s at vs

-- The place i of the part b: within the list b its element, past it what was there.
module _ (i : ℕ) (hi : i < 512) where
  pub laid-within : (s : List ℕ) (at : ℕ) (vss : List (List ℕ)) (b : ℕ) → AllShort vss
      → at + 512 * length vss ≤ length s → i < length (get_or vss b [])
      → get_or (laid s at vss) (at + 512 * b + i) 0 ≡ get_or (get_or vss b []) i 0
  unfolding laid AllShort
  laid-within s at [] b a l h = absurd (not-suc-le-zero h)
  laid-within s at (vs ∷ vss) zero a l h =
      let e : at + 512 * 0 + i ≡ at + i = omega arith in
      rw (e, laid-before (sets s at vs) (at + 512) vss (at + i) (omega arith))
      (sets-within s at vs i h (omega (arith, a.0)))
  laid-within s at (vs ∷ vss) (suc b) a l h =
      let e : at + 512 * suc b + i ≡ at + 512 + 512 * b + i = omega arith in
      rw e (laid-within (sets s at vs) (at + 512) vss b a.1 (rw (length-sets s at vs) (omega arith)) h)

  pub laid-past : (s : List ℕ) (at : ℕ) (vss : List (List ℕ)) (b : ℕ) → AllShort vss → length (get_or vss b []) ≤ i
      → get_or (laid s at vss) (at + 512 * b + i) 0 ≡ get_or s (at + 512 * b + i) 0
  unfolding laid AllShort
  laid-past s at [] b a h = refl
  laid-past s at (vs ∷ vss) zero a h =
      let e : at + 512 * 0 + i ≡ at + i = omega arith in
      rw (e, laid-before (sets s at vs) (at + 512) vss (at + i) (omega arith))
      (sets-after s at vs (at + i) (omega arith))
  laid-past s at (vs ∷ vss) (suc b) a h =
      let e : at + 512 * suc b + i ≡ at + 512 + 512 * b + i = omega arith in
      rw e
      (laid-past (sets s at vs) (at + 512) vss b a.1 h
      ∙ sets-after s at vs (at + 512 + 512 * b + i) (omega (arith, a.0)))

-- The list b is read back from its part.
module _ (s : List ℕ) (vss : List (List ℕ)) (b : ℕ) (a : AllShort vss) (hb : b < length vss)
    (l : 512 * length vss ≤ length s) where
  abbrev own : List ℕ
  own = get_or vss b []

  pub laid-log : length own ≤ 512 → take (length own) (drop (512 * b) (laid s 0 vss)) ≡ own
  laid-log k =
      let t = laid s 0 vss in
      let n : length t ≡ length s = laid-length s 0 vss in
      let d : length own ≤ length (drop (512 * b) t) = rw (length-drop (512 * b) t) (omega arith) in
      let m : length (take (length own) (drop (512 * b) t)) ≡ length own =
      length-take-le (length own) (drop (512 * b) t) d in
      ext_get_or 0 _ own m (λ i h.
      let g : i < length own = omega arith in
      let z : 0 + 512 * b + i ≡ 512 * b + i = omega arith in
      get_or-take (length own) (drop (512 * b) t) i 0 g ∙ get_or-drop (512 * b) t i 0
      ∙ sym (ap (λ j. get_or t j 0) z) ∙ laid-within i (omega arith) s 0 vss b a (omega arith) g)

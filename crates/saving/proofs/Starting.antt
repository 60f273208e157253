-- The first records of lists, stored place by place. Assumes nothing.
use mathlib.Core.Bool.{cond}
use mathlib.Core.List.{List, [], ◌∷◌, ◌++◌, append-nil}
use mathlib.Core.Path.{◌≡◌, refl, sym, ap, ◌∙◌}
use Prim.Native.Nat.{ℕ, suc, ◌+◌, ◌<◌}
use native.Mathlib.Numerals.{add-one}
use native.Mathlib.Omega.{arith}
use lib.Dec.{eqb}
use lib.ListN.{length, get_or, drop, set, length-set, length-append, drop_of_length-le}
use lib.Seq.{sets, sets-eq, drop-cons}
use Rattle.saving.specs.Saved.{firsts_by}

by_length : (k : ℕ) (ns : List ℕ) → length (firsts_by k ns) ≡ length ns
unfolding firsts_by
by_length k [] = refl
by_length k (n ∷ ns) = ap suc (by_length (k + n) ns)

pub record Starting (len : List ℕ) (count : ℕ) (s : List ℕ) (k i : ℕ) : Type 0 where
  pub long : length s ≡ 9
  pub starts : firsts_by 1 (len ++ (count ∷ [])) ≡ sets s i (firsts_by k (drop i len ++ (count ∷ [])))

module _ (len : List ℕ) (count : ℕ) (eight : length len ≡ 8) where
  -- As many as there are places are all that is there.
  pub starts-all : (s : List ℕ) → length s ≡ 9 → Starting len count s 1 0
  starts-all s l =
      let vs = firsts_by 1 (len ++ (count ∷ [])) in
      let n : length vs ≡ 9 = by_length 1 (len ++ (count ∷ [])) ∙ length-append len (count ∷ []) ∙ rw eight in
      record {
        long = l;
        starts = sym (sets-eq vs s 0 (omega arith) ∙ rw (drop_of_length-le s {i = 0 + length vs} (omega arith))
            (append-nil vs));
      }

  module _ (s : List ℕ) (k i : ℕ) (w : Starting len count s k i) where
    pub starts-on : i < 8 → (v : ℕ) → v ≡ cond (eqb (get_or len i 0) 0) 0 k
        → Starting len count (set s i v) (k + get_or len i 0) (i + 1)
    unfolding firsts_by
    starts-on h v e =
        record {
          long = length-set s i v ∙ w.long;
          starts = w.starts ∙ rw (drop-cons len i 0 (omega arith), add-one i, e);
        }

    pub starts-end : i ≡ 8 → (v : ℕ) → v ≡ cond (eqb count 0) 0 k → set s 8 v ≡ firsts_by 1 (len ++ (count ∷ []))
    unfolding firsts_by
    starts-end h v e = sym (w.starts ∙ rw (drop_of_length-le len {i = i} (omega arith), h, e))

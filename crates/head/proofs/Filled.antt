-- A list filled place by place is the table of its rule. Assumes nothing.
use mathlib.Core.List.{List}
use mathlib.Core.Path.{◌≡◌, refl, sym, ap, ◌∙◌}
use Prim.Native.Nat.{ℕ, zero, suc, ◌<◌}
use native.Mathlib.Omega.{arith}
use lib.ListN.{length, get_or}
use lib.Seq.{ext_get_or}
use Rattle.members.proofs.Finite.{table_from, table, table_at}

table-length : (f : ℕ → ℕ) (i n : ℕ) → length (table_from f i n) ≡ n
table-length f i zero = refl
table-length f i (suc n) = ap suc (table-length f (suc i) n)

filled-all : (f : ℕ → ℕ) (s : List ℕ) (n : ℕ) → length s ≡ n → ((k : ℕ) → k < n → get_or s k 0 ≡ f k) → s ≡ table f n
filled-all f s n e h =
    ext_get_or 0 s (table f n) (e ∙ sym (table-length f 0 n))
    (λ i l. h i (omega (arith, l, e)) ∙ sym (table_at f n i (omega (arith, l, e))))

-- A list by its places.
pub places : (xs : List ℕ) (n : ℕ) → length xs ≡ n → xs ≡ table (λ i. get_or xs i 0) n
places xs n e = filled-all (λ i. get_or xs i 0) xs n e (λ k h. refl)

-- Room for a record; one record more of a text. Assumes nothing.
use mathlib.Core.Bool.{true, ◌&&◌}
use mathlib.Core.List.{[], ◌∷◌, ◌++◌}
use mathlib.Core.Path.{◌≡◌, refl, sym, subst, ap, ◌∙◌}
use Prim.Native.Nat.{ℕ, zero, suc, ◌+◌, ◌*◌, ◌/◌, ◌%◌, ◌≤◌}
use lib.Dec.{T, eqb, leb, leb→le}
use native.Mathlib.Omega.{arith}
use lib.ListN.{length, drop}
use lib.Seq.{drop-drop}
use Rattle.model.proofs.Tests.{split-and}
use Rattle.text.specs.Text.{Text}
use Rattle.records.specs.Bytes.{record_at, records, whole_records}

-- Whole records, one at least: room for the first.
pub room : (n : ℕ) → whole_records n ≡ true → 0 + 8 ≤ n
room n e =
    omega (
      arith,
      leb→le 1 (n / 8) (split-and (eqb (n % 8) 0) (leb 1 (n / 8))
          (split-and (eqb (n % 8) 0 && leb 1 (n / 8)) (leb (n / 8) 4095) (subst T (sym e) tt)).0).1,
    )

-- One record more.
pub records-suc : (k : ℕ) (s : Text) → records (suc k) s ≡ records k s ++ (record_at (drop (8 * k) s) ∷ [])
unfolding records
records-suc zero s = refl
records-suc (suc k) s =
    let n : 8 + 8 * k ≡ 8 * suc k = omega arith in
    let d : drop (8 * k) (drop 8 s) ≡ drop (8 * suc k) s = drop-drop (8 * k) 8 s ∙ ap (λ m. drop m s) n in
    ap (λ rs. record_at s ∷ rs) (records-suc k (drop 8 s) ∙ ap (λ t. records k (drop 8 s) ++ (record_at t ∷ [])) d)

pub records-length : (n : ℕ) (s : Text) → length (records n s) ≡ n
unfolding records
records-length zero s = refl
records-length (suc n) s = ap suc (records-length n (drop 8 s))

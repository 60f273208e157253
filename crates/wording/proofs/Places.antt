-- Answers and steps of the list, place by place: as an array and bits. Assumes nothing.
use mathlib.Core.List.{List, [], ◌∷◌, map}
use mathlib.Core.Path.{◌≡◌, refl}
use Prim.Native.Nat.{ℕ, ◌+◌, ◌/◌, ◌%◌, ◌^◌, ◌<◌, ◌≤◌}
use native.Mathlib.Omega.{arith}
use lib.Dec.{leb, eqb, leb→le}
use lib.ListN.{length, get_or, get_or-map}
use Rattle.phrases.specs.Phrases.{Reason, of, reasons, has}
use Rattle.phrases.specs.Layout.{reason_at}
use Rattle.phrases.proofs.Testing.{passes, passes-both, agree, agreeing}

abbrev answer_of : Reason → ℕ
answer_of r = r.answer

pub answer_at : (i : ℕ) → get_or (map answer_of reasons) i 0 ≡ (reason_at i).answer
answer_at i = get_or-map answer_of reasons i (of 0 [] "")

pub answer-small : (i : ℕ) → i < length reasons → get_or (map answer_of reasons) i 0 ≤ 19
answer-small i h =
    let t = passes (length reasons) (λ i. leb (reason_at i).answer 19) refl i h in
    omega (arith, answer_at i, leb→le (reason_at i).answer 19 t)

abbrev mask_of : Reason → ℕ
mask_of r = mask r.steps
  where
    mask : List ℕ → ℕ
    mask [] = 0
    mask (k ∷ ks) = 2 ^ k + mask ks

pub step-at : (i k : ℕ) → i < length reasons → k < 17
    → eqb (get_or (map mask_of reasons) i 0 / 2 ^ k % 2) 1 ≡ has k (reason_at i).steps
step-at i k h l =
    agreeing _ _ (passes-both (length reasons) 17
    (λ i k. agree (eqb (get_or (map mask_of reasons) i 0 / 2 ^ k % 2) 1) (has k (reason_at i).steps)) refl i k h l)

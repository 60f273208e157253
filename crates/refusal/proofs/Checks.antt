-- What is known past the `?` of a check, and where it leaves. Assumes nothing.
use Rattle.std.specs.Prelude.{◌≡◌, ◌≤◌, Bool, true, false, cond, Result, Ok, Err, refl}
use Rattle.std.specs.Result.{IsErrAnd}
use Rattle.std.proofs.Common.{lit≤}
use Rattle.std.proofs.lemmas.Result.{err_from_is_err_and}
use Rattle.refusal.specs.declared.Refusal.{Refusal}
use Rattle.refusal.specs.declared.Refusal.TheVariants.{Invalid}
use Rattle.refusal.specs.Refusal.{number}

-- No refusal has the number of acceptance.
pub least : (e : Refusal) → 1 ≤ number e
least Invalid = lit≤ tt
least e = lit≤ tt

-- The check passed,
pub passed : (ok : Bool) (e : Refusal) {x : Unit {0}}
    → ◌≡◌ {A = Result (Unit {0}) Refusal} (Ok x) (cond ok (Ok tt) (Err e)) → ok ≡ true
passed true e q = refl
passed false e q = cc

-- or it failed, and r, which leaves, is its refusal.
pub failed : {A : Type 0} (ok : Bool) (e : Refusal) (r : Result A Refusal) {x : Refusal} → IsErrAnd r (λ y. y ≡ x)
    → ◌≡◌ {A = Result (Unit {0}) Refusal} (Err x) (cond ok (Ok tt) (Err e)) → (ok ≡ false) × (r ≡ Err e)
failed true e r l q = absurd cc
failed false e r l q = (refl, let p = err_from_is_err_and r l in let k = p.2 in let m = p.1 in cc)

-- A `?` leaves with the refusal that the call returned.
pub left : {A : Type 0} (r : Result A Refusal) {x : Refusal} → IsErrAnd r (λ y. y ≡ x) → r ≡ Err x
left r l = let p = err_from_is_err_and r l in let k = p.2 in let m = p.1 in cc

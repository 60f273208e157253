-- What a record asks for, done or refused. Assumes nothing.
use Rattle.std.proofs.Common.{◌≡◌, ◌≤◌, ◌+◌, ℕ, nat_eq, Result, Ok, Err, refl, arith}
use lib.Dec.{eqb→eq}
use Rattle.model.proofs.Tests.{by-test, ne-fact}
use Rattle.std.specs.Result.{result_and}
use lib.ListN.{get_or, get_or-eq_default}
use Rattle.refusal.specs.declared.Refusal.{Refusal}
use Rattle.refusal.specs.declared.Refusal.TheVariants.{Invalid}
use Rattle.refusal.specs.Refusal.{answer}
use Rattle.model.specs.Steps.{Step, malformed}
use Rattle.model.specs.Records.{Record, rules}
use Rattle.cluster.specs.declared.Cluster.{Cluster}
use Rattle.cluster.specs.Ended.{outcome}
use Rattle.refinement.specs.Refinement.{Places, Full, Ready, Turns, Leaves}
use Rattle.refinement.proofs.Turning.{turns-refused}

-- What is no step is answered 1.
pub malformed_turns : (row : Cluster) → Ready row → (p : Places) → Full p
    → Turns malformed row p (outcome (Err Invalid) row) p
malformed_turns row r p full = turns-refused row r.short r.issued p full malformed 1 refl (λ e. omega arith)

-- A step that asks no majority hands back no one.
pub nobody-behind : {st : Step} {row row' : Cluster} {p p' : Places} (x : Result Unit Refusal)
    → Leaves st row p (answer x) 0 row' p' → Turns st row p (outcome (result_and x (Ok 0)) row') p'
nobody-behind (Ok x) h = h
nobody-behind (Err e) h = h

-- A number above 15 is no step.
pub no_step_lem : (r : Record) (n : ℕ) → 16 ≤ n → get_or (rules r) n malformed ≡ malformed
no_step_lem r n h = get_or-eq_default (rules r) malformed {n = n} h

-- What is so at two neighbours, and at three, is so at a number among them.
pub among_two : (f : ℕ → Step) (s : Step) (i n : ℕ) → i ≤ n → n ≤ i + 1 → f i ≡ s → f (i + 1) ≡ s → f n ≡ s
among_two f s i n low high p q =
    by-test (nat_eq n i) (λ t. rw (eqb→eq n i t) p)
    (λ t. let d = ne-fact n i t in let e : n ≡ i + 1 = omega arith in rw e q)

pub among_three : (f : ℕ → Step) (s : Step) (i n : ℕ) → i ≤ n → n ≤ i + 2
    → f i ≡ s → f (i + 1) ≡ s → f (i + 2) ≡ s → f n ≡ s
among_three f s i n low high p q r =
    by-test (nat_eq n (i + 2)) (λ t. rw (eqb→eq n (i + 2) t) r)
    (λ t. let d = ne-fact n (i + 2) t in among_two f s i n low (omega arith) p q)

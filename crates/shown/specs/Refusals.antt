-- Refusal 1 of document 02, Paper 4, on rows and places worked out by hand. Cited by the promise of `shown::refusals`.
-- Assumes nothing.
use Rattle.std.specs.Prelude.{Bool, not, List, [], ◌∷◌, ℕ, T, replicate, set}
use Rattle.model.specs.Ranges.{every}
use Rattle.cluster.specs.declared.View.{View}
use Rattle.cluster.specs.declared.Cluster.{Cluster}
use Rattle.cluster.specs.declared.Status.TheVariants.{Normal}
use Rattle.cluster.specs.declared.Stage.TheVariants.{Idle}
use Rattle.refinement.specs.Refinement.{lent}
use Rattle.shown.specs.Shown.{valid}

-- The row opened with board 1, but with one entry in the logs of boards 1 and 8, and one receipt.
abbrev first : View
first = record { epoch = 1; term = 1; leader = 1; members = 1 }

abbrev row : Cluster
row = record {
  registry = record { view = first; status = Normal };
  controller = record { view = first; stage = Idle; heard = replicate 8 0; joined = replicate 8 0 };
  views = replicate 8 first;
  joined = replicate 8 1;
  acked = replicate 64 0;
  len = 1 ∷ 0 ∷ 0 ∷ 0 ∷ 0 ∷ 0 ∷ 0 ∷ 1 ∷ [];
  issued = 1;
}

-- It is let through with these terms.
abbrev taken : List ℕ → List ℕ → Bool
taken store2 list2 = valid row (lent (replicate 4096 0) store2 (replicate 512 0) list2)

-- With the term t at the place i of the second store, or of the second list, and 1 at all others.
abbrev stored : ℕ → ℕ → Bool
stored i t = taken (set (replicate 4096 1) i t) (replicate 512 1)

abbrev listed : ℕ → ℕ → Bool
listed i t = taken (replicate 4096 1) (set (replicate 512 1) i t)

-- With a second store and a second list of these lengths.
abbrev long : ℕ → ℕ → Bool
long n m = taken (replicate n 1) (replicate m 1)

abbrev pub refusals : List Bool
refusals =
    -- "The kept epoch of an entry inside its log": those of boards 1 and 8,
    not (stored 0 0) ∷ stored 0 1 ∷ stored 0 4000 ∷ not (stored 0 4001) ∷ not (stored 3584 0) ∷ not (stored 3584 4001)
    -- "or the receipts is 1 to 4,000";
    ∷ not (listed 0 0) ∷ listed 0 1 ∷ listed 0 4000 ∷ not (listed 0 4001)
    -- "places past a length may hold anything".
    ∷ stored 1 0 ∷ stored 1 4001 ∷ stored 512 0 ∷ stored 3585 0 ∷ listed 1 0 ∷ listed 1 4001
    -- "a second store of 4,096 numbers and a second list of 512, with refusal 1 as for the first pair"
    ∷ not (long 4095 512) ∷ not (long 4097 512) ∷ not (long 4096 511) ∷ not (long 4096 513) ∷ long 4096 512 ∷ []

unfoldable pub RefusalsHold : Type 0
RefusalsHold = T (every refusals)

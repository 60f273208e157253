-- How far a sheet has been run, and the answers of its run. Cited by the contracts of running, and by the definitions
-- of explain. Assumes nothing.
use Rattle.std.specs.Prelude.{List, ◌∷◌, map, ◌≡◌, ℕ, suc, ◌-◌, ◌/◌, length, take, drop}
use Rattle.model.specs.Members.{none}
use Rattle.model.specs.State.{RowState, entries, outline, opened}
use Rattle.model.specs.Records.{opening_of, Record}
use Rattle.model.specs.Runs.{steps_of, answers, sets_behind}
use Rattle.model.specs.Claim.{after}
use Rattle.cluster.specs.declared.Cluster.{Cluster}
use Rattle.cluster.specs.Layout.{bits, outline_of}
use Rattle.refinement.specs.Refinement.{Places, Full, abs}
use Rattle.text.specs.Text.{Text}
use Rattle.records.specs.Bytes.{record_at, records}

-- The first k records after the opening.
abbrev pub following : Text → ℕ → List Record
following s k = records k (drop 8 s)

-- The model's state after the opening of s and k records more.
abbrev pub state_at : Text → ℕ → RowState
state_at s k = after entries (opening_of (record_at s)) (steps_of (following s k))

-- The answers of the records of a sheet that refusal 2 lets through, the opening's first.
unfoldable pub answers_of : Text → List ℕ
unfolding records
answers_of s = 0 ∷ answers entries (opened (opening_of (record_at s))) (steps_of (records (length s / 8 - 1) (drop 8 s)))

-- The sheet s was run up to there: the row and the lent places stand for the model's state, and from their first places
-- on ns has the answers and qs the masks of the sets behind them. (The opening asks no majority.)
pub record Ran (s : Text) (k : ℕ) (row : Cluster) (p : Places) (ns qs : List ℕ) : Type 0 where
  pub state : abs row p ≡ state_at s k
  pub outlined : outline_of row ≡ outline (state_at s k)
  pub answered : take (suc k) ns ≡ 0 ∷ answers entries (opened (opening_of (record_at s))) (steps_of (following s k))
  pub behind : map bits (take (suc k) qs)
      ≡ none ∷ sets_behind entries (opened (opening_of (record_at s))) (steps_of (following s k))
  pub full : Full p
  pub room : length ns ≡ 4096
  pub set_room : length qs ≡ 4096

-- The lines of a listing's records, document 01, with the sets of document 02, byte for byte; its ending is in crate
-- `ending`. Cited by the promises of `deliver` and, through `listing`, of `run_sheet`. Assumes nothing.
use Rattle.std.specs.Prelude.{List, [], ◌∷◌, ◌++◌, map, ℕ, suc, ◌/◌, take, length}
use Rattle.model.specs.Members.{Members}
use Rattle.model.specs.Records.{Record}
use Rattle.cluster.specs.Layout.{bits}
use Rattle.text.specs.Text.{Text}
use Rattle.lines.specs.Lines.{answer_line}
use Rattle.records.specs.Bytes.{records}

-- The lines of records from number k on, with their answers and the sets behind them.
unfoldable pub answer_lines : ℕ → List Record → List ℕ → List Members → Text
unfolding answer_line
answer_lines k [] ns qs = []
answer_lines k (r ∷ rs) [] qs = []
answer_lines k (r ∷ rs) (n ∷ ns) [] = []
answer_lines k (r ∷ rs) (n ∷ ns) (q ∷ qs) = answer_line k r.step n q ++ answer_lines (suc k) rs ns qs

-- The lines of the first n records of s, with the answers ns and the sets of the masks qs.
unfoldable pub lines : Text → List ℕ → List ℕ → ℕ → Text
unfolding records answer_lines
lines s ns qs n = answer_lines 1 (records n s) (take n ns) (map bits (take n qs))

-- Those of all its records.
abbrev pub all_lines : Text → List ℕ → List ℕ → Text
all_lines s ns qs = lines s ns qs (length s / 8)

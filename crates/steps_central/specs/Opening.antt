-- What the opening call answers, that no one is behind it, and the row it leaves. Cited by the contracts of
-- steps_central, steps and sheet. Assumes nothing.
use Rattle.std.specs.Prelude.{cond, ◌≡◌}
use Rattle.model.specs.Members.{none}
use Rattle.model.specs.State as M
use Rattle.model.specs.State.{Entry, Opening, opening_with, can_open, opened, open_answer}
use Rattle.members.specs.Mask.{bits}
use Rattle.cluster.specs.declared.Cluster.{Cluster}
use Rattle.cluster.specs.Ended.{Outcome}
use Rattle.cluster.specs.Layout.{outline_of}
use Rattle.refinement.specs.Refinement.{Places, abs}

-- A row that is the model's opened with o, whatever the lent places hold.
pub record OpenedWith (o : Opening) (row : Cluster) : Type 0 where
  pub state : (p : Places) → abs row p ≡ opened o
  pub outline : outline_of row ≡ M.outline {E = Entry} (opened o)

-- The opening call o. It asks no majority. Where it is refused the row is free in the papers: it is the one opened with
-- 1.
pub record Opens (o : Opening) (x : Outcome) : Type 0 where
  pub answer : x.answer ≡ open_answer o
  pub behind : bits x.behind ≡ none
  pub row : OpenedWith (cond (can_open o) o (opening_with 1)) x.row

-- Runs: lists of steps, malformed and refused ones too, each on what the one before left. Cited by Claim, Trials and
-- the contracts of steps and sheet. Assumes nothing.
use Rattle.std.specs.Prelude.{cond, List, [], ◌∷◌, ◌++◌, ℕ, length}
use Rattle.model.specs.Members.{Members}
use Rattle.model.specs.State.{outline, Entries, State}
use Rattle.model.specs.Steps.{Step, Writes, appends, commits, receives, nothing, writes, answer_of, accepted, behind, step, entry_at}
use Rattle.model.specs.Records.{Record, step_of}

-- The steps that records stand for.
abbrev pub steps_of : List Record → List Step
steps_of [] = []
steps_of (r ∷ rs) = step_of r ∷ steps_of rs

module _ (𝓔 : Entries) where
  open 𝓔 use {Entry}

  -- The state after a list of steps.
  unfoldable pub run : State Entry → List Step → State Entry
  run s [] = s
  run s (st ∷ sts) = run (step 𝓔 s st) sts

  -- Their answers, in order.
  unfoldable pub answers : State Entry → List Step → List ℕ
  answers s [] = []
  answers s (st ∷ sts) = answer_of (outline s) st ∷ answers (step 𝓔 s st) sts

  -- The sets behind them, in order.
  unfoldable pub sets_behind : State Entry → List Step → List Members
  sets_behind s [] = []
  sets_behind s (st ∷ sts) = behind (outline s) st ∷ sets_behind (step 𝓔 s st) sts

  -- What an accepted step gives out: step 2 the next entry of b's log, any other nothing.
  abbrev pub gift : State Entry → Writes → List Entry
  gift s (appends b value) = []
  gift s (commits b) = entry_at 𝓔 s b (length s.committed) ∷ []
  gift s (receives b) = []
  gift s nothing = []

  abbrev pub gives : State Entry → Step → List Entry
  gives s st = cond (accepted (outline s) st) (gift s (writes st)) []

  -- "The receipts given are one for each accepted step 2, in that order, each the entry that step took from b's log."
  unfoldable pub given : State Entry → List Step → List Entry
  given s [] = []
  given s (st ∷ sts) = gives s st ++ given (step 𝓔 s st) sts

-- The papers' numbers of the refusals, and a result as a number. Cited by the contracts of refusal and of every call
-- that refuses. Assumes nothing.
use Rattle.std.specs.Prelude.{ℕ, Result, Ok, Err}
use Rattle.refusal.specs.declared.Refusal.{Refusal}
use Rattle.refusal.specs.declared.Refusal.TheVariants.{Invalid, Sheet, Room, Status, Membership, Leader, EpochsUsedUp, NotLeader, FollowsNone, TermsDiffer, Joining, NothingDue, LogFull, NoMajority, Stage, EpochsDiffer, ImageLength, ImageNumber, ImageLinks, NoPlan}

-- Document 01, "Who causes a refusal": 1 to 16; document 02, Paper 7: 17 to 19, Paper 10: 20.
abbrev pub number : Refusal → ℕ
number Invalid = 1
number Sheet = 2
number Room = 3
number Status = 4
number Membership = 5
number Leader = 6
number EpochsUsedUp = 7
number NotLeader = 8
number FollowsNone = 9
number TermsDiffer = 10
number Joining = 11
number NothingDue = 12
number LogFull = 13
number NoMajority = 14
number Stage = 15
number EpochsDiffer = 16
number ImageLength = 17
number ImageNumber = 18
number ImageLinks = 19
number NoPlan = 20

-- The answer to a step: 0 is accepted.
abbrev pub answer : {A : Type 0} → Result A Refusal → ℕ
answer (Ok x) = 0
answer (Err e) = number e

-- What was handed back; d where the call was refused.
abbrev pub handed : {A : Type 0} → A → Result A Refusal → A
handed d (Ok x) = x
handed d (Err e) = d

-- What an entry for C returns: a length, or the refusal's number.
abbrev pub returned : Result ℕ Refusal → ℕ
returned (Ok n) = n
returned (Err e) = number e

-- What a record stands for, and what a field check says of it. Cited by the contracts of records, dispatch, steps,
-- sheet and draws. Assumes nothing.
use Rattle.std.specs.Prelude.{◌≡◌, Result, Ok, Err}
use Rattle.model.specs.Records as R
use Rattle.model.specs.Steps.{Step, malformed}
use Rattle.refusal.specs.declared.Refusal.{Refusal}
use Rattle.refusal.specs.declared.Refusal.TheVariants.{Invalid}
use Rattle.records.specs.declared.Record.{Record}

-- The model's record of a record.
abbrev pub record_of : Record → R.Record
record_of r = record { step = r.step; board = r.board; other = r.other; spare = r.spare; value = r.value }

-- A field check, for a rule that makes a record's step of the fields that it uses: their values, with which it is the
-- step; or refusal 1, where it is no step.
abbrev pub Uses : {A : Type 0} → ((A → Step) → Step) → Result A Refusal → Type 0
Uses {A} rule (Ok x) = (st : A → Step) → rule st ≡ st x
Uses {A} rule (Err e) = (e ≡ Invalid) × ((st : A → Step) → rule st ≡ malformed)

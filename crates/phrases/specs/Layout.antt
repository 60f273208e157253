-- Places in the phrase list. Cited by the proofs of phrases and of wording. Assumes nothing.
use Rattle.std.specs.Prelude.{[], ℕ, get_or}
use Rattle.phrases.specs.Phrases.{Reason, of, reasons}

-- The phrase at place i.
abbrev pub reason_at : ℕ → Reason
reason_at i = get_or reasons i (of 0 [] "")

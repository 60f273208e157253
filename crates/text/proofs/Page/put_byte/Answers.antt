-- One store is a text of one byte. Assumes nothing.
use mathlib.Core.Path.{refl, sym}
use Rattle.text.proofs.Laws.{over-one}
use Rattle.text.proofs.Page.put_byte.Goals as goal

pub returns : goal.returns
returns c = record { wrote = record { next = refl; text = sym (over-one _ _ _) }; same = refl }

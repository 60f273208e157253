-- The receipts so far are written.
use Rattle.std.specs.Prelude.{take, length}
use Rattle.logstore.specs.Log.{pairs}
use Rattle.text.specs.Text.{Puts}
use Rattle.ending.specs.Ending.{receipts_text}
use Rattle.ending.proofs.put_entries.Given as goal

abbrev pub invariant-loop-value : goal.invariant-loop-value
invariant-loop-value l =
    (goal.iterator-loop-value).can_next l.value-iterator × (goal.iterator-loop-value).is_finite l.value-iterator
    × Puts l.fn.page (receipts_text (take (length l.yielded) (pairs l.fn.values l.fn.terms))) l.page

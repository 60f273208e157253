-- The receipts' chain can be copied too. Assumes nothing.
use Rattle.std.proofs.Common.{arith}
use Rattle.refusal.proofs.Checks.{passed}
use Rattle.loading.proofs.Boards.{sound-at}
use Rattle.loading.proofs.take_chains.Goals as goal

pub copy-receipts-requires : goal.copy-receipts-requires
copy-receipts-requires c =
    let ok = passed _ _ c.in_ok-well_linked.ensures.answer in
    (rw c.first.ensures (sound-at _ c.args.image.bytes.now 8 (omega arith) ok), omega arith, omega arith)

pub overflow_cast-receipts : goal.overflow_cast-receipts
overflow_cast-receipts c =
    let ok = passed _ _ c.in_ok-well_linked.ensures.answer in
    let s = sound-at _ c.args.image.bytes.now 8 (omega arith) ok in
    omega (arith, rw c.first.ensures at c.copy-receipts.ensures.count, s.short)

-- The image of the row that the run ends with is written. Assumes nothing.
use Rattle.archive.proofs.Archiving.{sheet-saved}
use Rattle.archive.proofs.save_run.Goals as goal

pub returns-clause-result : goal.returns-clause-result
returns-clause-result c =
    (sheet-saved c.args.sheet.now c.requires.sheet _ _ _ _ c.play-row.ensures.run _ c.args.out.now _ _ c.lent.ensures
    c.save.ensures.answer c.save.ensures.saves).0

pub returns-clause-image : goal.returns-clause-image
returns-clause-image c =
    (sheet-saved c.args.sheet.now c.requires.sheet _ _ _ _ c.play-row.ensures.run _ c.args.out.now _ _ c.lent.ensures
    c.save.ensures.answer c.save.ensures.saves).1

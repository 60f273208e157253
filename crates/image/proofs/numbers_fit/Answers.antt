-- The tests in turn. Assumes nothing.
use Rattle.std.proofs.Common.{◌≡◌, true, false, refl, sym, ap, ◌∙◌, arith}
use Rattle.model.specs.Ranges.{in_range}
use Rattle.cluster.specs.Layout.{outline_of}
use Rattle.chains.specs.Image.{epochs_fit}
use Rattle.image.specs.Image.{records_in}
use Rattle.image.proofs.Reading.{numbers-are}
use Rattle.image.proofs.numbers_fit.Goals as goal
use Rattle.image.proofs.numbers_fit.Goals.{then-codes_fit, else-codes_fit}

pub returns-then-in_range : goal.returns-then-in_range
returns-then-in_range c =
    let i = c.args.image.bytes.now in
    let n : c.args.image.records ≡ records_in i = omega (arith, c.requires) in
    let e = sym (c.epochs_fit.ensures ∙ ap (λ n. epochs_fit n i) n) in
    elim c.if-codes_fit.branch [
      | then-codes_fit w ↦
          let r = sym (w.in_range.ensures ∙ ap (λ r. in_range (outline_of r)) w.row.ensures) ∙ sym w.value-is in
          sym (numbers-are i true true _ (sym w.if-codes_fit.ensures) (r ∙ c.if-in_range.true) e)
      | else-codes_fit w ↦ absurd (let v = w.value-is in let t = w.if-codes_fit.false in let f = c.if-in_range.true in cc)
    ]

pub returns-else-in_range : goal.returns-else-in_range
returns-else-in_range c =
    let i = c.args.image.bytes.now in
    elim c.if-codes_fit.branch [
      | then-codes_fit w ↦
          let r = sym (w.in_range.ensures ∙ ap (λ r. in_range (outline_of r)) w.row.ensures) ∙ sym w.value-is in
          c.if-in_range.false
          ∙ sym (numbers-are i true false (epochs_fit (records_in i) i) (sym w.if-codes_fit.ensures) (r ∙ c.if-in_range.false) refl)
      | else-codes_fit w ↦
          c.if-in_range.false
          ∙ sym (numbers-are i false _ (epochs_fit (records_in i) i) (sym w.if-codes_fit.ensures) refl refl)
    ]

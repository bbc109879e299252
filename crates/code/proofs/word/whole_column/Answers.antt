-- `code::word::whole_column` meets its contract. Assumes nothing.
use Rattle.field.proofs.Base.{sym, ap, ◌∙◌, ℕ}
use Rattle.field.specs.declared.Exponent.{Exponent}
use Rattle.field.proofs.Widths.{field_of}
use Rattle.code.specs.Word.{five}
use Rattle.code.specs.inner.Place.{column}
use Rattle.code.proofs.finding.Times.{powers-column, times-one}
use Rattle.code.proofs.word.whole_column.Goals as goal

pub returns-then-p-lt132 : goal.returns-then-p-lt132
returns-then-p-lt132 c =
    λ w.
    (let p = c.args.p.0 in
    c.powers_from.ensures
    ∙ powers-column p c.exponent_of.result.0 c.if-p-lt5.false (ap (λ (e : Exponent). e.0) c.exponent_of.ensures)
    ∙ ap (λ (m : ℕ). five (column m p)) (sym c.if-width-eq7.true))

pub returns : goal.returns
returns c w = c.point_times.ensures w (field_of _ w).one-lt ∙ times-one _ w _

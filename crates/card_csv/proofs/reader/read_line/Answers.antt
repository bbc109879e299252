-- `card_csv::reader::read_line` meets its contract. Assumes nothing.
use Rattle.field.proofs.Base.{rules, ◌≡◌, sym, ap, ◌∙◌}
use Rattle.std.proofs.Common.{Err}
use Rattle.card_csv.specs.declared.Fault.TheVariants.{Date}
use Rattle.card_csv.specs.Reading.{counts_rest}
use Rattle.card_csv.proofs.ReadLines.{line-wrong, slot-wrong, slot-right, date-wrong, pump-wrong, pump-right, changed-wrong, changed-behind}
use Rattle.card_csv.proofs.reader.read_line.Goals as goal

pub returns-then-commas-commas_of : goal.returns-then-commas-commas_of
returns-then-commas-commas_of c =
    let a = c.args in
    let text = c.trimmed-text in
    line-wrong a.full a.line.now text.result.now text.ensures c.commas.result c.commas_of.result c.commas.ensures c.commas_of.ensures c.if-commas-commas_of.true

pub returns-in_err-day : goal.returns-in_err-day
returns-in_err-day c =
    let a = c.args in
    let text = c.trimmed-text in
    let told : c.from_residual.result ≡ Err c.in_err-day.field-0.0 = search rules in
    told ∙ slot-wrong a.full a.line.now text.result.now text.ensures c.commas.result c.commas_of.result c.commas.ensures c.commas_of.ensures c.if-commas-commas_of.false _ c.in_err-day.ensures

pub returns-in_err-date : goal.returns-in_err-date
returns-in_err-date c =
    let a = c.args in
    let text = c.trimmed-text in
    let line = slot-right a.full a.line.now text.result.now text.ensures c.commas.result c.commas_of.result c.commas.ensures c.commas_of.ensures c.if-commas-commas_of.false c.in_ok-day.day.now c.in_ok-day.ensures in
    let told : c.from_residual-in_err-date.result ≡ Err Date = search rules in
    told ∙ date-wrong a.full c.in_ok-day.day.now c.cut.result.0.now c.cut.result.1.now c.cut.ensures.first c.cut.ensures.others
    (sym c.in_err-date.ensures.ok_part ∙ c.date_in.ensures) ∙ line

pub returns-in_err-pump : goal.returns-in_err-pump
returns-in_err-pump c =
    let a = c.args in
    let text = c.trimmed-text in
    let line = slot-right a.full a.line.now text.result.now text.ensures c.commas.result c.commas_of.result c.commas.ensures c.commas_of.ensures c.if-commas-commas_of.false c.in_ok-day.day.now c.in_ok-day.ensures in
    let date = sym c.in_ok-date.ensures.ok_part ∙ c.date_in.ensures in
    let told : c.from_residual-in_err-pump.result ≡ Err c.in_err-pump.field-0.0 = search rules in
    told ∙ pump-wrong a.full c.in_ok-day.day.now c.cut.result.0.now c.cut.result.1.now c.cut.ensures.first c.cut.ensures.others
    c.in_ok-date.date date c.cut-2.result.0.now c.cut-2.result.1.now c.cut-2.ensures.first c.cut-2.ensures.others
    _ c.in_err-pump.ensures ∙ line

pub returns-in_err-counts : goal.returns-in_err-counts
returns-in_err-counts c =
    let a = c.args in
    let text = c.trimmed-text in
    let line = slot-right a.full a.line.now text.result.now text.ensures c.commas.result c.commas_of.result c.commas.ensures c.commas_of.ensures c.if-commas-commas_of.false c.in_ok-day.day.now c.in_ok-day.ensures in
    let date = sym c.in_ok-date.ensures.ok_part ∙ c.date_in.ensures in
    let told : c.from_residual-in_err-counts.result ≡ Err c.in_err-counts.field-0.0 = search rules in
    told ∙ ap (counts_rest c.in_ok-date.date c.in_ok-pump.pump) (changed-wrong a.full c.cut-2.result.1.now _ c.in_err-counts.ensures)
    ∙ pump-right a.full c.in_ok-day.day.now c.cut.result.0.now c.cut.result.1.now c.cut.ensures.first c.cut.ensures.others
    c.in_ok-date.date date c.cut-2.result.0.now c.cut-2.result.1.now c.cut-2.ensures.first c.cut-2.ensures.others
    _ c.in_ok-pump.ensures ∙ line

pub returns : goal.returns
returns c =
    let a = c.args in
    let text = c.trimmed-text in
    let line = slot-right a.full a.line.now text.result.now text.ensures c.commas.result c.commas_of.result c.commas.ensures c.commas_of.ensures c.if-commas-commas_of.false c.in_ok-day.day.now c.in_ok-day.ensures in
    let date = sym c.in_ok-date.ensures.ok_part ∙ c.date_in.ensures in
    c.read_counts.ensures
    ∙ ap (counts_rest c.in_ok-date.date c.in_ok-pump.pump) (changed-behind a.full c.cut-2.result.1.now c.in_ok-counts.counts.now c.in_ok-counts.ensures)
    ∙ pump-right a.full c.in_ok-day.day.now c.cut.result.0.now c.cut.result.1.now c.cut.ensures.first c.cut.ensures.others
    c.in_ok-date.date date c.cut-2.result.0.now c.cut-2.result.1.now c.cut-2.ensures.first c.cut-2.ensures.others
    _ c.in_ok-pump.ensures ∙ line

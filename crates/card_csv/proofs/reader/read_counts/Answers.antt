-- `card_csv::reader::read_counts` meets its contract. Before turn i the first i counts are read, and the rest is what follows. Assumes nothing.
use Rattle.field.proofs.Base.{rules, ◌≡◌, refl, sym, ap, ◌∙◌, arith, length-set}
use Rattle.std.proofs.Common.{Err}
use Rattle.card_csv.specs.declared.Fault.TheVariants.{Count}
use Rattle.card_csv.specs.Reading.{symbol_in, counts_rest}
use Rattle.card_csv.proofs.ReadLines.{counted_none, counted-on, counted-bad, counted-end, day-behind, day-long, behind-stays}
use Rattle.card_csv.proofs.reader.read_counts.Goals as goal

pub loop-i-init : goal.loop-i-init
loop-i-init c =
    let a = c.args in
    let x = c.day_symbols-symbols in
    (day-long a.date a.pump x.result x.ensures, refl, counted_none a.text.now x.result)

pub loop-i-preserved : goal.loop-i-preserved
loop-i-preserved c =
    let l = c.loop-i in
    let n = c.in_ok-symbols.field-0 in
    let count = c.symbol_in.ensures ∙ ap (symbol_in Count) c.cut.ensures.first in (
      simp length-set (omega arith),
      behind-stays l.symbols l.i n (omega arith) ∙ l.invariant.1,
      counted-on c.args.text.now l.i l.symbols l.rest.now l.invariant.2 (omega arith) c.symbol_in.result count n c.in_ok-symbols.was (omega arith) _
          c.cut.ensures.others,
    )

pub returns-in_err-symbols : goal.returns-in_err-symbols
returns-in_err-symbols c =
    let a = c.args in
    let l = c.loop-i in
    let count = c.symbol_in.ensures ∙ ap (symbol_in Count) c.cut.ensures.first in
    let told : c.from_residual.result ≡ Err c.in_err-symbols.field-0.0 = search rules in
    told
    ∙ ap (counts_rest a.date a.pump)
    (sym (counted-bad a.text.now l.i l.symbols l.rest.now l.invariant.2 (omega arith) c.symbol_in.result count _ c.in_err-symbols.was))

pub returns : goal.returns
returns c =
    let l = c.loop-i in
    let a = c.args in
    let x = c.day_symbols-symbols in
    counted-end a.text.now l.i l.symbols _ l.invariant.2 c.loop-i-test.false (omega arith) a.date a.pump
    (l.invariant.1 ∙ day-behind a.date a.pump x.result x.ensures)

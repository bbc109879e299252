-- `card_csv::records::record_of` meets its contract. Assumes nothing.
use Rattle.field.proofs.Base.{refl, [], arith, length-append}
use Rattle.card_csv.proofs.SheetRecords.{word_kept, record-made}
use Rattle.card_csv.proofs.records.record_of.Goals as goal

pub slice_bounds-clear_header-end : goal.slice_bounds-clear_header-end
slice_bounds-clear_header-end c =
    let x = c.write_sheet in
    let word = x.new.word in
    let size = word_kept c.args.symbols.now _ refl x.result word x.ensures in
    omega (arith, length-append word [], size)

pub returns : goal.returns
returns c =
    let x = c.write_sheet in
    record-made c.args.symbols.now _ refl x.result _ x.ensures _ c.clear_header.ensures

-- `card::records::restore_asked` meets its contract. Assumes nothing.
use Rattle.std.proofs.Common.{Err}
use Rattle.field.proofs.Base.{rules, ◌≡◌, sym, arith, length, length-take-le}
use Rattle.card.specs.Record.{erasure_bytes, count_of}
use Rattle.card.proofs.Layouts.{asked, word_fits, word-long}
use Rattle.card.proofs.Recording.{restores-parts, word-refused, word-restored}
use Rattle.card.proofs.records.restore_asked.Goals as goal

pub bounds-bytes-0 : goal.bounds-bytes-0
bounds-bytes-0 c = omega (arith, (asked c.args.bytes.now c.requires).size)

pub bounds-bytes-1 : goal.bounds-bytes-1
bounds-bytes-1 c = omega (arith, (asked c.args.bytes.now c.requires).size)

pub erasure_row-erasures-requires : goal.erasure_row-erasures-requires
erasure_row-erasures-requires c = omega (arith, (asked c.args.bytes.now c.requires).size)

pub slice_bounds-restore_within-end : goal.slice_bounds-restore_within-end
slice_bounds-restore_within-end c =
    let r = c.args.bytes.now in
    omega (arith, word_fits r (asked r c.requires) c.word_length-end.result c.word_length-end.ensures)

pub slice_bounds-erasures-end : goal.slice_bounds-erasures-end
slice_bounds-erasures-end c =
    let l : erasure_bytes ≡ length c.erasure_row-erasures.result = search rules in
    omega (arith, (asked c.args.bytes.now c.requires).few)

pub slice_bounds-restore_within-end-2 : goal.slice_bounds-restore_within-end-2
slice_bounds-restore_within-end-2 c =
    let e = c.erasure_row-erasures.result in
    let l : erasure_bytes ≡ length e = search rules in
    sym (length-take-le (count_of c.args.bytes.now) e (omega (arith, (asked c.args.bytes.now c.requires).few)))

pub returns : goal.returns
returns c =
    let r = c.args.bytes.now in
    let a = asked r c.requires in
    let e = c.erasure_row-erasures in
    let n = c.word_length-end in
    let x = c.restore_within in
    let reach = c.args.reach in
    let R = restores-parts r a n.result n.ensures e.result e.ensures reach x.result _ x.ensures in
    word-restored r c.requires reach x.result _ R _ (word-long r a n.result n.ensures) _ (search rules) _
    c.clear_header.ensures

pub returns-in_err-changed : goal.returns-in_err-changed
returns-in_err-changed c =
    let r = c.args.bytes.now in
    let a = asked r c.requires in
    let e = c.erasure_row-erasures in
    let n = c.word_length-end in
    let x = c.restore_within in
    let reach = c.args.reach in
    let R = restores-parts r a n.result n.ensures e.result e.ensures reach x.result _ x.ensures in
    let p : c.from_residual.result ≡ Err c.in_err-changed.field-0.0 = search rules in
    word-refused r c.requires reach x.result _ R _ (word-long r a n.result n.ensures) _ (search rules) _ p

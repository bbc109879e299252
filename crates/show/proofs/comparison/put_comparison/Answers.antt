-- `show::comparison::put_comparison` meets its contract. Assumes nothing.
use Rattle.card.proofs.Writing.{appends-as}
use Rattle.show.proofs.Comparing.{read-ok, read-symbols, read-sheet, controller-dated, cupboard-dated, chosen-dated, read-text}
use Rattle.show.proofs.comparison.put_comparison.Goals as goal

pub unwrap-controller-requires : goal.unwrap-controller-requires
unwrap-controller-requires c =
    let a = c.args in
    let x = c.read_day in
    read-ok a.a.now x.result x.ensures (controller-dated a.a.now a.b.now a.x c.requires.0)

pub unwrap-cupboard-requires : goal.unwrap-cupboard-requires
unwrap-cupboard-requires c =
    let a = c.args in
    let x = c.read_day-2 in
    read-ok a.b.now x.result x.ensures (cupboard-dated a.a.now a.b.now a.x c.requires.0)

pub unwrap-chosen-requires : goal.unwrap-chosen-requires
unwrap-chosen-requires c =
    let a = c.args in
    let x = c.read_day-3 in
    let p = c.chosen_part in
    read-ok p.result.now x.result x.ensures (chosen-dated a.a.now a.b.now a.x c.requires.0 p.result.now p.ensures.bytes)

pub put_sheets-requires : goal.put_sheets-requires
put_sheets-requires c =
    let a = c.args in
    let x = c.read_day in
    let y = c.read_day-2 in
    let z = c.read_day-3 in
    let p = c.chosen_part in
    let controller = controller-dated a.a.now a.b.now a.x c.requires.0 in
    let cupboard = cupboard-dated a.a.now a.b.now a.x c.requires.0 in
    let chosen = chosen-dated a.a.now a.b.now a.x c.requires.0 p.result.now p.ensures.bytes in (
      read-sheet p.result.now z.result z.ensures chosen _ c.unwrap-chosen.ensures,
      (read-sheet a.a.now x.result x.ensures controller _ c.unwrap-controller.ensures).size,
      (read-sheet a.b.now y.result y.ensures cupboard _ c.unwrap-cupboard.ensures).size,
      c.requires.1,
    )

pub returns : goal.returns
returns c =
    let a = c.args in
    let x = c.read_day in
    let y = c.read_day-2 in
    let z = c.read_day-3 in
    let p = c.chosen_part in
    appends-as (read-text a.a.now a.b.now a.x c.requires.0 p.result.now p.ensures.bytes
    (read-symbols a.a.now x.result x.ensures _ c.unwrap-controller.ensures)
    (read-symbols a.b.now y.result y.ensures _ c.unwrap-cupboard.ensures)
    (read-symbols p.result.now z.result z.ensures _ c.unwrap-chosen.ensures)) c.put_sheets.ensures

-- `card_csv::columns::put_columns` meets its contract. Before each turn the counts so far are written. Assumes nothing.
use Rattle.field.proofs.Base.{arith, length-take-le}
use Rattle.sheet.specs.Sheet.{quarters}
use Rattle.card_csv.proofs.columns.put_columns.Goals as goal

pub put_column-requires : goal.put_column-requires
put_column-requires c = omega (arith, length-take-le quarters c.args.symbols.now c.requires.1)

pub returns-clause-upper_bound : goal.returns-clause-upper_bound
returns-clause-upper_bound c = omega (arith, length-take-le quarters c.args.symbols.now c.requires.1)

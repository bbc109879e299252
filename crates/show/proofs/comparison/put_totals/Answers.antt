-- `show::comparison::put_totals` meets its contract. Assumes nothing.
use Rattle.card.proofs.Writing.{appends-on}
use Rattle.show.specs.Comparison.{totals_line}
use Rattle.show.proofs.comparison.put_totals.Goals as goal

pub returns-clause-text : goal.returns-clause-text
unfolding totals_line
returns-clause-text c =
    let last = appends-on c.put_labelled-3.ensures.text c.put_byte.ensures in
    appends-on c.put_labelled.ensures.text (appends-on c.put_labelled-2.ensures.text last)

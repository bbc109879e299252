-- `show::text::put_dated` meets its contract. Assumes nothing.
use Rattle.card.proofs.Writing.{appends-on}
use Rattle.show.specs.Text.{dated_lines}
use Rattle.show.proofs.text.put_dated.Goals as goal

pub returns-clause-text : goal.returns-clause-text
unfolding dated_lines
returns-clause-text c =
    appends-on c.put_bytes.ensures (appends-on c.put_date.ensures.text (appends-on c.put_labelled.ensures.text c.put_byte.ensures))

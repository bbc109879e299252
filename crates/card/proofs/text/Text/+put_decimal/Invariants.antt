-- `card::text::Text::put_decimal` meets its contract. The measure is n. Assumes nothing.
use Rattle.card.proofs.text.Text.+put_decimal.Given as goal

abbrev pub decreases-put_decimal : goal.decreases-put_decimal
decreases-put_decimal l = l.n

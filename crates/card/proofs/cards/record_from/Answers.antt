-- `card::cards::record_from` meets its contract. Assumes nothing.
use Rattle.field.proofs.Base.{refl, arith}
use Rattle.card.proofs.Checking.{last-piece}
use Rattle.card.proofs.cards.record_from.Goals as goal

pub returns-then-card-at-lt-RECORD : goal.returns-then-card-at-lt-RECORD
returns-then-card-at-lt-RECORD c =
    record { bytes = last-piece c.args.card.now c.args.at c.if-card-at-lt-RECORD.true; lies = record { block = refl; place = omega arith } }

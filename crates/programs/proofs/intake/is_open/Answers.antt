-- `programs::intake::is_open` meets its contract. Assumes nothing.
use Rattle.field.proofs.Base.{rules, lt-ltb, le-ltb, sym, ap, ◌∙◌, Bool, ◌&&◌}
use Rattle.card_csv.specs.inner.Room.{text_size}
use Rattle.programs.specs.inner.Cuts.{goes_further}
use Rattle.programs.proofs.Batches.{and-asked, and-unasked}
use Rattle.programs.proofs.intake.is_open.Goals as goal

pub returns-then-t-ge-TEXT : goal.returns-then-t-ge-TEXT
returns-then-t-ge-TEXT c =
    let t = c.args.t in
    sym (ap (λ (b : Bool). b && (t.input.going && goes_further t)) (le-ltb t.kept text_size c.if-t-ge-TEXT.true))

pub returns-then-going : goal.returns-then-going
returns-then-going c =
    let t = c.args.t in
    and-asked c.going.ensures (goes_further t) (search rules) c.goes_on.ensures
    ∙ sym (ap (λ (b : Bool). b && (t.input.going && goes_further t)) (lt-ltb t.kept text_size c.if-t-ge-TEXT.false))

pub returns-else-going : goal.returns-else-going
returns-else-going c =
    let t = c.args.t in
    and-unasked c.going.ensures (goes_further t) (search rules)
    ∙ sym (ap (λ (b : Bool). b && (t.input.going && goes_further t)) (lt-ltb t.kept text_size c.if-t-ge-TEXT.false))

-- `card_csv::fields::cut` meets its contract. Assumes nothing.
use Rattle.field.proofs.Base.{◌≡◌, sym, ◌∙◌, ◌+◌}
use Rattle.card_csv.proofs.Cutting.{rest_all, comma_at, cut-at, cut-none}
use Rattle.card_csv.proofs.fields.cut.Goals as goal

pub returns-in-Some-clause-first : goal.returns-in-Some-clause-first
returns-in-Some-clause-first c =
    let at : c.find.result ≡ comma_at c.args.text.now = c.find.ensures in
    (cut-at c.args.text.now c.in-Some.end (sym at ∙ c.in-Some.is)).0

pub returns-in-Some-clause-others : goal.returns-in-Some-clause-others
returns-in-Some-clause-others c =
    let at : c.find.result ≡ comma_at c.args.text.now = c.find.ensures in
    rest_all c.args.text.now (c.in-Some.end + 1) ∙ (cut-at c.args.text.now c.in-Some.end (sym at ∙ c.in-Some.is)).1

pub returns-in-None-clause-first : goal.returns-in-None-clause-first
returns-in-None-clause-first c =
    let at : c.find.result ≡ comma_at c.args.text.now = c.find.ensures in
    (cut-none c.args.text.now (sym at ∙ c.in-None.is)).0

pub returns-in-None-clause-others : goal.returns-in-None-clause-others
returns-in-None-clause-others c =
    let at : c.find.result ≡ comma_at c.args.text.now = c.find.ensures in
    (cut-none c.args.text.now (sym at ∙ c.in-None.is)).1

-- `code::validation::ask_read_data` meets its contract. Assumes nothing.
use Rattle.std.proofs.Common.{Ok, Err}
use Rattle.field.proofs.Base.{rules, ◌≡◌, ◌∙◌, Bool, true, false}
use Rattle.field.specs.Question.{ask}
use Rattle.field.specs.declared.Question.TheVariants.{Syndrome}
use Rattle.code.specs.Call.{read_data_asked}
use Rattle.code.proofs.calls.Answers.{slices-width, slices-word, slices-long, slices-symbols, read_answer, read-stop}
use Rattle.code.proofs.validation.ask_read_data.Goals.{After-zero_syndromes}
use Rattle.code.proofs.validation.ask_read_data.Goals as goal

-- question 9 is answered c
answer : (s : After-zero_syndromes) (c : Bool) → s.zero_syndromes.result ≡ c
    → ask c Syndrome (Ok tt) ≡ read_data_asked s.args.width s.args.word.now s.args.message
answer s c t =
    let v = s.ask_slices in
    let m = s.args.width in
    let w = s.args.word.now in
    let p : v.result ≡ (Ok tt) = search rules in
    read_answer m _ w v.result v.ensures p s.zero_syndromes.result c
    (s.zero_syndromes.ensures (slices-width m _ _ w v.result v.ensures p) (slices-word m _ _ w v.result v.ensures p)
    (slices-symbols m _ _ w v.result v.ensures p)) t

pub zero_syndromes-requires : goal.zero_syndromes-requires
zero_syndromes-requires c =
    let v = c.ask_slices in
    let a = c.args in
    slices-long a.width _ _ a.word.now v.result v.ensures (search rules)

pub returns-then-zero_syndromes : goal.returns-then-zero_syndromes
returns-then-zero_syndromes c = answer (goal.at.returns-then-zero_syndromes c).After-zero_syndromes true c.if-zero_syndromes.true

pub returns-else-zero_syndromes : goal.returns-else-zero_syndromes
returns-else-zero_syndromes c = answer (goal.at.returns-else-zero_syndromes c).After-zero_syndromes false c.if-zero_syndromes.false

pub returns-in_err-ask_slices : goal.returns-in_err-ask_slices
returns-in_err-ask_slices c =
    let v = c.ask_slices in
    let a = c.args in
    let r : c.from_residual.result ≡ Err c.in_err-ask_slices.field-0.0 = search rules in
    r ∙ read-stop a.width _ a.word.now v.result v.ensures _ (search rules)

-- `code::is_codeword` meets its contract. Assumes nothing.
use Rattle.std.proofs.Common.{Ok}
use Rattle.field.proofs.Base.{rules, refl, ◌≡◌}
use Rattle.code.proofs.calls.Answers.{test-width, test-size, test-long, test-symbols, test-answer, test-refused}
use Rattle.code.proofs.is_codeword.Goals as goal

pub zero_syndromes-requires : goal.zero_syndromes-requires
zero_syndromes-requires c =
    let v = c.ask_is_codeword in
    let a = c.args in
    test-long a.width a.word.now v.result v.ensures (search rules)

pub returns : goal.returns
returns c =
    let v = c.ask_is_codeword in
    let m = c.args.width in
    let w = c.args.word.now in
    let p : v.result ≡ Ok tt = search rules in
    test-answer m w v.result v.ensures p c.zero_syndromes.result _
    (c.zero_syndromes.ensures (test-width m w v.result v.ensures p) (test-size m w v.result v.ensures p)
    (test-symbols m w v.result v.ensures p)) refl

pub returns-in_err-ask_is_codeword : goal.returns-in_err-ask_is_codeword
returns-in_err-ask_is_codeword c = search (rules, test-refused)

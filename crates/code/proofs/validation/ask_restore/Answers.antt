-- `code::validation::ask_restore` meets its contract. Assumes nothing.
use Rattle.std.proofs.Common.{Ok}
use Rattle.field.proofs.Base.{rules, ◌≡◌, arith}
use Rattle.field.proofs.Widths.{order_small}
use Rattle.code.specs.Call.{restore_asked}
use Rattle.code.proofs.calls.Answers.{word_width, word_size, word_on, word-stop}
use Rattle.code.proofs.validation.ask_restore.Goals as goal

pub ask_erasures-requires : goal.ask_erasures-requires
ask_erasures-requires c =
    let v = c.ask_word in
    let m = c.args.width in
    let p : v.result ≡ (Ok tt) = search rules in
    omega (arith, word_size m _ v.result v.ensures p, order_small m (word_width m _ v.result v.ensures p))

pub returns : goal.returns
unfolding restore_asked
returns c =
    let v = c.ask_word in
    let m = c.args.width in
    let p : v.result ≡ (Ok tt) = search rules in
    word_on m _ v.result v.ensures p c.ask_erasures.result _
    (c.ask_erasures.ensures (word_width m _ v.result v.ensures p) (word_size m _ v.result v.ensures p))

pub returns-in_err-ask_word : goal.returns-in_err-ask_word
unfolding restore_asked
returns-in_err-ask_word c = search (rules, word-stop)

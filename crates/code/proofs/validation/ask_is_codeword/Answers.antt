-- `code::validation::ask_is_codeword` meets its contract. Assumes nothing.
use Rattle.field.proofs.Base.{rules}
use Rattle.code.specs.Call.{is_codeword_asked}
use Rattle.code.proofs.calls.Answers.{word-stop, test_on}
use Rattle.code.proofs.validation.ask_is_codeword.Goals as goal

pub returns : goal.returns
unfolding is_codeword_asked
returns c = search (rules, test_on)

pub returns-in_err-ask_word : goal.returns-in_err-ask_word
unfolding is_codeword_asked
returns-in_err-ask_word c = search (rules, word-stop)

-- `code::validation::symbols_below` meets its contract. Assumes nothing.
use Rattle.field.proofs.Base.{rules, ℕ, ◌+◌, ◌≡◌, refl, drop}
use Rattle.code.specs.Erasure.{symbols_from}
use Rattle.code.proofs.Questions.{symbols-on, symbols-run, symbols-erased, symbols-stop}
use Rattle.code.proofs.validation.symbols_below.Goals.{else-q-word-via-then-q-word+else-not-contains, else-q-word-via-else-q-word}
use Rattle.code.proofs.validation.symbols_below.Goals as goal

pub loop-i-init : goal.loop-i-init
loop-i-init c =
    let s = c.args in
    let a = c.pass_all_below-i in
    (a.ensures.within, symbols-run s.q s.erasures.now s.word.now 0 a.result a.ensures refl)

pub returns-then-not-contains : goal.returns-then-not-contains
returns-then-not-contains c = search (rules, symbols-stop)

pub loop-i-preserved : goal.loop-i-preserved
loop-i-preserved c =
    let s = c.args in
    let w = s.word.now in
    let es = s.erasures.now in
    let i : ℕ = c.loop-i.i in
    let a = c.pass_below-i in
    let next : symbols_from s.q es 0 w ≡ symbols_from s.q es (i + 1) (drop (i + 1) w) =
    elim c.else-q-word.branch [
      | else-q-word-via-then-q-word+else-not-contains v ↦ search (rules, symbols-erased)
      | else-q-word-via-else-q-word v ↦ search (rules, symbols-on)
    ]
    in
    (a.ensures.within, symbols-run s.q es w (i + 1) a.result a.ensures next)

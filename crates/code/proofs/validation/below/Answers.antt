-- `code::validation::below` meets its contract. Assumes nothing.
use Rattle.field.proofs.Base.{rules, ◌≡◌, refl, sym, ap, ◌∙◌, List, ℕ, drop, take, length, ◌-◌, ltb}
use Rattle.std.specs.List.{list_all}
use Rattle.std.proofs.lemmas.Iterator.{YieldsList-from_slice}
use Rattle.std.proofs.lemmas.Iterator.Search.{all_from_yields_List}
use borrow.Author.Tests.{tests}
use Rattle.code.proofs.Loops.{part-drop}
use Rattle.code.proofs.Questions.{all_below-run, all_below-all}
use Rattle.code.proofs.validation.below.Goals as goal

pub returns : goal.returns
returns c =
    let s = c.args in
    let xs = s.xs.now in
    let i = c.pass_all_below-i.result in
    let rest : List ℕ = take (length xs - i) (drop i xs) in
    let all : c.all.result ≡ list_all (λ x. ltb x s.n) rest =
    all_from_yields_List (λ x. ltb x s.n) _ _ c.all.result c.all.ensures.ran (YieldsList-from_slice rest (cc)) (λ x b q k. search (rules, tests))
    in
    all ∙ ap (list_all (λ x. ltb x s.n)) (part-drop i xs) ∙ all_below-all s.n (drop i xs) ∙ sym (all_below-run s.n xs 0 i c.pass_all_below-i.ensures refl)

-- `code::erasures::Trial::contains` meets its contract. Assumes nothing.
use Rattle.field.proofs.Base.{ap, ◌∙◌, take}
use Rattle.code.specs.Erasure.{member}
use Rattle.code.proofs.Places.{numbers-take, member-places}
use Rattle.code.proofs.erasures.Trial.contains.Goals as goal

pub returns : goal.returns
returns c =
    let a = c.args in
    c.contains.ensures.value ∙ member-places a.p.0 (take a.self.count a.self.places) ∙ ap (member a.p.0) (numbers-take a.self.count a.self.places)

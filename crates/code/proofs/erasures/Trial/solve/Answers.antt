-- `code::erasures::Trial::solve` meets its contract. Assumes nothing.
use Rattle.code.proofs.restoring.Correcting.{solved-none, solved-one, solved-several}
use Rattle.code.proofs.erasures.Trial.solve.Goals as goal

pub returns-in-None : goal.returns-in-None
returns-in-None c = λ w R. solved-none c.args.width c.args.self c.requires _ c.matrix.ensures w R c.in-None.ensures

pub returns-in-One : goal.returns-in-One
returns-in-One c = λ w R. solved-one c.args.width c.args.self c.requires _ c.matrix.ensures w R c.in-One.values c.in-One.ensures

pub returns-in-Several : goal.returns-in-Several
returns-in-Several c = λ w R. solved-several c.args.width c.args.self c.requires _ c.matrix.ensures w R c.in-Several.ensures

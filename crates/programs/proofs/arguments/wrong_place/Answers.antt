-- `programs::arguments::wrong_place` meets its contract. Assumes nothing.
use Rattle.programs.specs.Arguments.{wrong_place}
use Rattle.programs.proofs.Roles.{or_assoc}
use Rattle.programs.proofs.arguments.wrong_place.Goals as goal

pub returns : goal.returns
unfolding wrong_place
returns c =
    rw (c.or-6.ensures, c.or-5.ensures, c.or-4.ensures, c.or-3.ensures, c.or-2.ensures, c.or.ensures)
    (simp or_assoc
    (rw (
      c.place_of.ensures,
      c.untaken_at.ensures,
      c.untaken_at-2.ensures,
      c.place_of-2.ensures,
      c.place_of-3.ensures,
      c.place_of-4.ensures,
      c.dangling_at.ensures,
    )))

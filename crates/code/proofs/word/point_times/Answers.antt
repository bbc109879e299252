-- `code::word::point_times` meets its contract. Assumes nothing.
use Rattle.code.proofs.finding.Times.{point-five}
use Rattle.code.proofs.word.point_times.Goals as goal

pub returns : goal.returns
returns c =
    λ w h.
    (point-five c.args.width w c.args.p.0 c.args.x c.requires h c.point-a.result _ _ _ _ (c.point-a.ensures w) c.multiply-b.ensures
    c.multiply-c.ensures c.multiply-d.ensures c.multiply-e.ensures)

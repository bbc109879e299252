-- The demands of specs/Demands.antt, each under its name in small letters. Assumes nothing.
use Rattle.card.proofs.Again as Again
use Rattle.walk.specs.Demands.{RestoredAgain, WalkDone, WalkThrough, EachAlone, AfterEnd, OtherLength, RefusedStep, LookBetween, LookAmong}
use Rattle.walk.proofs.Restoring as Restoring
use Rattle.walk.proofs.Walking as Walking
use Rattle.walk.proofs.Looking as Looking

pub restored-again : RestoredAgain
restored-again = Again.restored-again

pub walk-done : WalkDone
walk-done = Walking.walk-done

pub walk_through : WalkThrough
walk_through = Walking.walk_through

pub each-alone : EachAlone
each-alone = Restoring.each-alone

pub after-end : AfterEnd
after-end = Walking.after-end

pub other_length : OtherLength
other_length = Walking.other_length

pub refused-step : RefusedStep
refused-step = Walking.refused-step

pub look-between : LookBetween
look-between = Looking.look-between

pub look-among : LookAmong
look-among = Looking.look-among

-- The demands of specs/Demands.antt, each under its name in small letters. Assumes nothing.
use Rattle.dock.specs.Demands.{Thousand, NotDenied, Denied, RefusedStays, UnlessDenied, CallCosts}
use Rattle.dock.proofs.Serving as Serving
use Rattle.dock.proofs.Denying as Denying
use Rattle.dock.proofs.Running as Running

pub thousand : Thousand
thousand = Running.thousand

pub not-denied : NotDenied
not-denied = Running.not-denied

pub denied : Denied
denied = Denying.denied

pub refused-stays : RefusedStays
refused-stays = Serving.refused-stays

pub unless-denied : UnlessDenied
unless-denied = Serving.unless-denied

pub call-costs : CallCosts
call-costs = Running.call-costs

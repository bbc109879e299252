-- `programs::arguments::is_device` meets its contract. Assumes nothing.
use Rattle.field.proofs.Base.{◌∙◌}
use Rattle.programs.proofs.Roles.{device_named}
use Rattle.programs.proofs.arguments.is_device.Goals as goal

pub returns : goal.returns
returns c = c.starts_with.ensures.value ∙ device_named c.args.path.now

-- `programs::cardlook::look_card` meets its contract. Assumes nothing.
use Rattle.programs.proofs.cardlook.look_card.Goals as goal

pub returns : goal.returns
returns c = c.answer.ensures

use Rattle.theory.proofs.Parts.{parts_are_whole}
use Rattle.theory.proofs.parts_are_whole.Goals as goal

pub returns : goal.returns
returns c = parts_are_whole

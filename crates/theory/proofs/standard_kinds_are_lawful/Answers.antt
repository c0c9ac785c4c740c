use Rattle.theory.proofs.Lawfulness.{standard_kinds}
use Rattle.theory.proofs.standard_kinds_are_lawful.Goals as goal

pub returns : goal.returns
returns c = standard_kinds

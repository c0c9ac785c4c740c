use Rattle.std.proofs.Common.{rules}
use Rattle.theory.proofs.Maps.{marked_one}
use Rattle.receiver.proofs.map.set.Goals as goal

pub returns : goal.returns
returns c = marked_one c.args.map.now c.args.n c.requires (λ i. search rules)

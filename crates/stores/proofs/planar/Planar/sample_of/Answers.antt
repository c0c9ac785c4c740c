use Rattle.std.proofs.Common.{ap, ◌∙◌}
use lib.Bits.{bit_and}
use Rattle.std.proofs.lemmas.Nat.{and_mask}
use Rattle.stores.proofs.planar.Planar.sample_of.Goals as goal

pub returns : goal.returns
returns c = ap (bit_and c.args.word) c.largest.ensures ∙ and_mask c.args.word c.args.self.now.shape.depth

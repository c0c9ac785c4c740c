use Rattle.std.proofs.Common.{◌∙◌}
use Rattle.receiver.proofs.Counting.{clear_low}
use Rattle.receiver.proofs.map.clear_low_bits.Goals as goal

pub returns : goal.returns
returns c = (rw c.from.ensures at c.count_zeros.ensures.value) ∙ clear_low c.args.octet c.args.bits c.ranges.octet.fits c.requires

use Rattle.std.proofs.Common.{arith}
use Rattle.sender.proofs.Cuts.{cut_short}
use Rattle.sender.proofs.Sizes.{limits_of}
use Rattle.sender.proofs.plan.Plan.start.Goals as goal

pub overflow_mul-result : goal.overflow_mul-result
overflow_mul-result g c =
    let s = c.args.self.now.source in
    let w = limits_of g.met.K.GroupKind.lawful s in
    omega (arith, (cut_short w c.args.self.now.first).few, c.args.self.now.segments_are)

pub overflow_add-result : goal.overflow_add-result
overflow_add-result g c =
    let s = c.args.self.now.source in
    let w = limits_of g.met.K.GroupKind.lawful s in
    omega (arith, (cut_short w c.args.self.now.first).few, c.args.self.now.segments_are)

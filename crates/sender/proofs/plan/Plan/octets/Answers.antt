use Rattle.std.proofs.Common.{◌*◌, ◌≤◌, arith}
use Rattle.sender.proofs.Cuts.{cut_short}
use Rattle.sender.proofs.Packets.{packet_length}
use Rattle.sender.proofs.Sizes.{limits_of}
use Rattle.sender.proofs.plan.Plan.octets.Goals as goal

short : (g : _) (c : goal.After-start g) → c.args.self.now.groups * c.args.self.now.source.octets ≤ 1438
short g c =
    let s = c.args.self.now.source in
    let w = limits_of g.met.K.GroupKind.lawful s in
    rw (c.args.self.now.groups_are, s.octets_are) (cut_short w c.args.self.now.first).octets

pub overflow_mul-result : goal.overflow_mul-result
overflow_mul-result g c = omega (arith, short g c)

pub overflow_add-result : goal.overflow_add-result
overflow_add-result g c =
    let s = c.args.self.now.source in
    let w = limits_of g.met.K.GroupKind.lawful s in
    omega (arith, short g c, (cut_short w c.args.self.now.first).few, c.args.self.now.segments_are)

pub returns : goal.returns
returns g c v seq =
    let s = c.args.self.now.source in
    let w = limits_of g.met.K.GroupKind.lawful s in
    rw (packet_length w v seq c.args.self.now.first) (cc)

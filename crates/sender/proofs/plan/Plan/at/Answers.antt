use Rattle.std.proofs.Common.{◌≡◌, length, ap, arith}
use Rattle.formats.specs.Meaning.{part_of}
use Rattle.theory.specs.Cutting.{cut, cut_groups}
use Rattle.sender.proofs.Cuts.{cut_short, few_in_cut}
use Rattle.sender.proofs.Sizes.{limits_of}
use Rattle.sender.proofs.plan.Plan.at.Goals as goal

pub overflow_add-segments : goal.overflow_add-segments
overflow_add-segments g c =
    let s = c.args.source in
    let w = limits_of g.met.K.GroupKind.lawful s in
    omega (arith, c.loop-segment.invariant.2.segments, ap length c.in-Some.ensures.steps.1, (cut_short w c.args.first).few)

pub overflow_add-groups : goal.overflow_add-groups
overflow_add-groups g c =
    let s = c.args.source in
    let w = limits_of g.met.K.GroupKind.lawful s in
    omega (arith, c.loop-segment.invariant.2.groups, ap cut_groups c.in-Some.ensures.steps.1, few_in_cut w c.args.first)

pub invariant_of-result : goal.invariant_of-result
invariant_of-result g c =
    let ss = cut (part_of g.K.GroupKind.kind c.args.source.part.now) c.args.first in
    let segments : c.loop-segment.segments ≡ length ss =
    omega (arith, c.loop-segment.invariant.2.segments, ap length c.in-None.ensures.steps.1.0) in
    let groups : c.loop-segment.groups ≡ cut_groups ss =
    omega (arith, c.loop-segment.invariant.2.groups, ap cut_groups c.in-None.ensures.steps.1.0) in
    record { segments_are = segments; groups_are = groups }

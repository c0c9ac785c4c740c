use Rattle.std.proofs.Common.{◌≡◌, ◌+◌, length}
use Rattle.formats.specs.Meaning.{part_of}
use Rattle.theory.specs.Cutting.{cut, cut_groups}
use Rattle.sender.specs.Cuts.{segments_left}
use Rattle.sender.proofs.plan.Plan.at.Given as goal

abbrev pub invariant-loop-segment : goal.invariant-loop-segment
invariant-loop-segment g l =
    let t = part_of g.K.GroupKind.kind l.source.part.now in
    (goal.iterator-loop-segment g).can_next l.segment-iterator
    × (goal.iterator-loop-segment g).is_finite l.segment-iterator
    × record {
      segments : l.segments + length (segments_left l.segment-iterator) ≡ length (cut t l.first);
      groups : l.groups + cut_groups (segments_left l.segment-iterator) ≡ cut_groups (cut t l.first);
    }

use Rattle.std.proofs.Common.{◌≡◌, ◌+◌, ◌-◌, ◌*◌, ◌≤◌, take}
use Rattle.std.specs.List.{range_with_len}
use Rattle.formats.specs.Meaning.{part_of}
use Rattle.theory.specs.Groups.{group_octets}
use Rattle.theory.specs.Cutting.{concat_map}
use Rattle.sender.proofs.source.Source.write_groups.Given as goal

abbrev pub invariant-loop-run : goal.invariant-loop-run
invariant-loop-run g l =
    let it = l.run-iterator in
    let done = it.next - l.first in
    (goal.iterator-loop-run g).can_next it
    × (goal.iterator-loop-run g).is_finite it
    × record {
      source : it.source ≡ l.self;
      before : l.first ≤ it.next;
      rest : it.next + it.left ≡ l.first + l.count;
      start : l.start ≡ done * l.self.octets;
      written : take l.start l.out ≡ concat_map (group_octets (part_of g.K.GroupKind.kind l.self.part.now) (g.S.Store.picture l.self.store.now))
          (range_with_len l.first done);
    }

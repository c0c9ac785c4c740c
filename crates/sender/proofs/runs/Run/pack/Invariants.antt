use Rattle.std.proofs.Common.{◌≡◌, ◌+◌, ◌*◌, take}
use Rattle.std.specs.List.{range_with_len}
use Rattle.formats.specs.Meaning.{part_of}
use Rattle.theory.specs.Groups.{group_octets}
use Rattle.theory.specs.Cutting.{concat_map}
use Rattle.sender.proofs.runs.Run.pack.Given as goal

abbrev pub invariant-loop-i : goal.invariant-loop-i
invariant-loop-i g l =
    let s = l.self.source in
    take (l.i * l.octets) l.out
    ≡ concat_map (group_octets (part_of g.K.GroupKind.kind s.part.now) (g.S.Store.picture s.store.now))
    (range_with_len (l.self.unit_row * s.row_groups + l.self.place) l.i)

use Rattle.std.proofs.Common.{◌≡◌}
use Rattle.formats.specs.Meaning.{part_of}
use Rattle.packets.specs.Carried.{placed}
use Rattle.receiver.specs.Filling.{start_of}
use Rattle.receiver.proofs.Groups.{Ahead, SegmentSoFar}
use Rattle.receiver.proofs.segment.put_segment.Given as goal

abbrev pub invariant-loop-i : goal.invariant-loop-i
invariant-loop-i g l =
    let t = part_of g.K.GroupKind.kind l.part in
    let x = placed l.segment in
    let i = l.i-iterator.count in
    record {
      ahead : Ahead t l.initial.map x i l.i-iterator.iter.size l.i-iterator.iter.rest.now;
      so_far : SegmentSoFar t (g.S.Store.picture l.initial.store) l.initial.map x.octets (start_of t x) i (g.S.Store.picture l.store) l.map l.count;
      rest : g.S.Store.rest l.store ≡ g.S.Store.rest l.initial.store;
    }

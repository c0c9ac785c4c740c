use Rattle.std.proofs.Common.{◌≡◌, length}
use Rattle.packets.specs.Reading.{carried}
use Rattle.packets.specs.Segments.{segments_left}
use Rattle.receiver.specs.Opening.{part_open}
use Rattle.receiver.proofs.Segments.{HandedOut, PacketSoFar}
use Rattle.receiver.proofs.states.Open.take.Given as goal

abbrev pub invariant-loop-segment : goal.invariant-loop-segment
invariant-loop-segment g l =
    let t = part_open g.K.GroupKind.kind l.self in
    let i = length l.yielded in
    record {
      out : HandedOut (carried t l.fn.packet) i (segments_left l.segment-iterator);
      so_far : PacketSoFar t (g.S.Store.picture l.initial.store) l.initial.map l.fn.packet i (g.S.Store.picture l.store) l.map l.count;
      rest : g.S.Store.rest l.store ≡ g.S.Store.rest l.initial.store;
    }

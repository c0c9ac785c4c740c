use Rattle.std.proofs.Common.{◌≡◌}
use Rattle.formats.specs.Meaning.{part_of}
use Rattle.receiver.specs.Filling.{group_at}
use Rattle.receiver.proofs.Samples.{GroupSoFar}
use Rattle.receiver.proofs.group.Group.put.Given as goal

abbrev pub invariant-loop-k : goal.invariant-loop-k
invariant-loop-k g l =
    let t = part_of g.K.GroupKind.kind l.self.part.now in
    GroupSoFar t (g.S.Store.picture l.initial.store) l.octets (group_at t l.self.unit_row l.self.at) l.k (g.S.Store.picture l.store)
    × (g.S.Store.rest l.store ≡ g.S.Store.rest l.initial.store)

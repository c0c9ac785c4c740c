use Rattle.std.proofs.Common.{refl, ◌∙◌, arith}
use Rattle.formats.specs.Meaning.{part_of}
use Rattle.receiver.specs.Filling.{group_at}
use Rattle.receiver.proofs.Samples.{group_begins, group_puts, group_ends}
use Rattle.receiver.proofs.group.Group.put.Goals as goal

pub loop-k-init : goal.loop-k-init
loop-k-init g c =
    let t = part_of g.K.GroupKind.kind c.args.self.now.part.now in
    (group_begins t (g.S.Store.picture c.args.store.now) c.args.octets.now (group_at t c.args.self.now.unit_row c.args.self.now.at), refl)

pub loop-k-preserved : goal.loop-k-preserved
loop-k-preserved g c =
    let t = part_of g.K.GroupKind.kind c.args.self.now.part.now in
    let w = (g.met.K.GroupKind.lawful c.args.self.now.part.now.format.kind).at_depth t.format.depth c.args.self.now.lawful in
    let v = g.S.Store.picture c.args.store.now in
    let place = c.place-place.result in
    let is = c.place-place.ensures in (
      group_puts t w v (g.S.Store.lawful c.args.store.now) c.requires.fits c.args.octets.now (group_at t c.args.self.now.unit_row c.args.self.now.at)
          c.args.self.now.lawful c.requires.whole c.loop-k.k (omega (arith, c.loop-k-test.true, c.positions-k-end.ensures))
          (g.S.Store.picture c.loop-k.store) (g.S.Store.picture c.put.new.self)
          place.plane place.row place.column c.unpack-value.result
          is.plane is.row is.column c.unpack-value.ensures c.put.ensures.picture c.loop-k.invariant.0,
      c.put.ensures.rest ∙ c.loop-k.invariant.1,
    )

pub returns : goal.returns
returns g c =
    let t = part_of g.K.GroupKind.kind c.args.self.now.part.now in
    let w = (g.met.K.GroupKind.lawful c.args.self.now.part.now.format.kind).at_depth t.format.depth c.args.self.now.lawful in
    record {
      rest = c.loop-k.invariant.1;
      picture = group_ends t w (g.S.Store.picture c.args.store.now) (g.S.Store.lawful c.args.store.now) c.requires.fits
          c.args.octets.now (group_at t c.args.self.now.unit_row c.args.self.now.at)
          c.loop-k.k (omega (arith, c.loop-k-test.false, c.positions-k-end.ensures)) (g.S.Store.picture c.loop-k.store) c.loop-k.invariant.0;
    }

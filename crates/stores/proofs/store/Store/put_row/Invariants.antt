use Rattle.std.proofs.Common.{◌≡◌, take}
use Rattle.theory.specs.Pictures.{put_row}
use Rattle.stores.proofs.store.Store.put_row.Given as goal

abbrev pub invariant-loop-i : goal.invariant-loop-i
invariant-loop-i g l =
    (g.Self.Store.picture l.self ≡ put_row (g.Self.Store.picture l.initial.self) l.plane l.row l.column (take l.i l.samples))
    × (g.Self.Store.rest l.self ≡ g.Self.Store.rest l.initial.self)

use Rattle.std.proofs.Common.{ℕ, ◌<◌, [], get_or}
use Rattle.formats.specs.Meaning.{part_of}
use Rattle.sender.specs.Rows.{HoldsPlane}
use Rattle.sender.proofs.runs.Run.show.Given as goal

-- the planes before this one are held
abbrev pub invariant-loop-plane : goal.invariant-loop-plane
invariant-loop-plane g l =
    let s = l.self.source in
    (p : ℕ) → p < l.plane
    → HoldsPlane (part_of g.K.GroupKind.kind s.part.now) (g.S.Store.picture s.store.now) l.self.unit_row l.self.place l.self.groups p
    (get_or l.rows-items p [])

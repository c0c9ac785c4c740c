use Rattle.std.proofs.Common.{ℕ, ◌+◌, ◌*◌, ◌<◌, [], get_or}
use Rattle.formats.specs.Meaning.{part_of}
use Rattle.theory.specs.Layouts.{group_width}
use Rattle.theory.specs.Formats.{layout_of}
use Rattle.sender.specs.Rows.{HoldsRow}
use Rattle.sender.proofs.runs.Run.show_plane.Given as goal

-- the rows before row d are held
abbrev pub invariant-loop-d : goal.invariant-loop-d
invariant-loop-d g l =
    let s = l.self.source in
    let width = group_width (layout_of (part_of g.K.GroupKind.kind s.part.now).format) l.plane in
    (e : ℕ) → e < l.d
    → HoldsRow (g.S.Store.picture s.store.now) l.plane (l.first + e) (l.self.place * width) (l.self.groups * width) (get_or l.row-items e [])

use Rattle.std.proofs.Common.{◌+◌, ◌*◌, ◌/◌, ◌<◌, ◌≤◌, [], sym, subst, arith}
use Rattle.formats.specs.Meaning.{part_of}
use Rattle.theory.specs.Layouts.{group_width}
use Rattle.theory.specs.Formats.{layout_of}
use Rattle.sender.specs.Rows.{HoldsRow}
use Rattle.sender.proofs.Pieces.{small_place}
use Rattle.sender.proofs.Shown.{one_more}
use Rattle.sender.proofs.Sizes.{limits_of}
use Rattle.sender.proofs.runs.Run.show_plane.Goals as goal

pub overflow_mul-first : goal.overflow_mul-first
overflow_mul-first g c =
    let s = c.args.self.now in
    let w = limits_of g.met.K.GroupKind.lawful s.source in
    let few : c.group_rows.result ≤ 8 = omega (arith, w.layout.rows_range, c.group_rows.ensures) in
    omega (arith, small_place s.unit_row c.group_rows.result c.row_step.result 0 s.short.row few (omega arith))

pub loop-d-preserved : goal.loop-d-preserved
loop-d-preserved g c =
    let s = c.args.self.now in
    let width = group_width (layout_of (part_of g.K.GroupKind.kind s.source.part.now).format) c.args.plane in
    one_more [] (λ e row. HoldsRow (g.S.Store.picture s.source.store.now) c.args.plane
    (s.unit_row * (c.group_rows.result / c.row_step.result) + e) (s.place * width) (s.groups * width) row)
    c.loop-d.row-items c.loop-d.d c.show_columns.new.words
    (subst (λ m. c.loop-d.d < m) (sym c.loop-d.auto.row-items) c.loop-d-test.true) c.show_columns.ensures c.loop-d.invariant

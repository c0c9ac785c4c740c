use Rattle.std.proofs.Common.{◌≡◌, ◌*◌, ◌/◌, ◌≤◌, sym, arith}
use Rattle.std.proofs.lemmas.List.{length-take-le}
use Rattle.formats.specs.Meaning.{part_of}
use Rattle.theory.specs.Layouts.{group_width}
use Rattle.theory.specs.Formats.{layout_of}
use Rattle.sender.proofs.Pieces.{small_place}
use Rattle.sender.proofs.Shown.{short_row, row_held}
use Rattle.sender.proofs.Sizes.{limits_of}
use Rattle.sender.proofs.runs.Run.show_columns.Goals as goal

pub overflow_mul-column : goal.overflow_mul-column
overflow_mul-column g c =
    let s = c.args.self.now in
    let w = limits_of g.met.K.GroupKind.lawful s.source in
    let few : c.columns.result ≤ 8 = omega (arith, w.layout.columns_range, c.columns.ensures) in
    omega (arith, small_place s.place c.columns.result c.column_step.result 0 s.short.place few (omega arith))

pub overflow_mul-samples : goal.overflow_mul-samples
overflow_mul-samples g c =
    let s = c.args.self.now in
    let w = limits_of g.met.K.GroupKind.lawful s.source in
    let few : s.groups * (c.columns.result / c.column_step.result) ≤ 512 =
    short_row s.groups c.columns.result c.column_step.result s.short.few (omega (arith, w.layout.columns_range, c.columns.ensures)) in
    omega arith

pub slice_bounds-show_row-end : goal.slice_bounds-show_row-end
slice_bounds-show_row-end g c =
    let s = c.args.self.now in
    let w = limits_of g.met.K.GroupKind.lawful s.source in
    let few : s.groups * (c.columns.result / c.column_step.result) ≤ 512 =
    short_row s.groups c.columns.result c.column_step.result s.short.few (omega (arith, w.layout.columns_range, c.columns.ensures)) in
    omega (arith, c.requires.room)

pub slice_bounds-show_row-end-2 : goal.slice_bounds-show_row-end-2
slice_bounds-show_row-end-2 g c =
    let s = c.args.self.now in
    let w = limits_of g.met.K.GroupKind.lawful s.source in
    let few : s.groups * (c.columns.result / c.column_step.result) ≤ 512 =
    short_row s.groups c.columns.result c.column_step.result s.short.few (omega (arith, w.layout.columns_range, c.columns.ensures)) in
    sym (length-take-le _ c.args.words.now (omega (arith, c.requires.room)))

pub returns : goal.returns
returns g c =
    let s = c.args.self.now in
    let w = limits_of g.met.K.GroupKind.lawful s.source in
    let few : s.groups * (c.columns.result / c.column_step.result) ≤ 512 =
    short_row s.groups c.columns.result c.column_step.result s.short.few (omega (arith, w.layout.columns_range, c.columns.ensures)) in
    let l = layout_of (part_of g.K.GroupKind.kind s.source.part.now).format in
    let width : c.columns.result / c.column_step.result ≡ group_width l c.args.plane = cc (c.columns.ensures, c.column_step.ensures) in
    row_held (g.S.Store.picture s.source.store.now) c.args.plane c.args.row s.place s.groups _ _ _ c.show_row.new.words _ width
    (length-take-le _ c.args.words.now (omega (arith, c.requires.room))) c.show_row.ensures

use Rattle.std.proofs.Common.{◌≤◌, arith}
use Rattle.sender.proofs.Sizes.{limits_of, row_small, offset_small}
use Rattle.sender.proofs.source.Source.segment_header.Goals as goal
use Rattle.sender.proofs.source.Source.segment_header.Goals.{then-more, else-more}

pub overflow_mul-row : goal.overflow_mul-row
overflow_mul-row g c =
    let s = c.args.self.now in
    let w = limits_of g.met.K.GroupKind.lawful s in
    omega (arith, row_small w s.row_groups_are c.group_rows.ensures c.requires.inside)

pub overflow_mul-column : goal.overflow_mul-column
overflow_mul-column g c =
    let s = c.args.self.now in
    let w = limits_of g.met.K.GroupKind.lawful s in
    omega (arith, offset_small c.args.segment.first w s.row_groups_are c.group_columns.ensures)

pub overflow_add-self : goal.overflow_add-self
overflow_add-self g c =
    let s = c.args.self.now in
    let w = limits_of g.met.K.GroupKind.lawful s in
    omega (arith, w.field_small, row_small w s.row_groups_are c.group_rows.ensures c.requires.inside)

pub overflow_cast-self-2 : goal.overflow_cast-self-2
overflow_cast-self-2 g c =
    let s = c.args.self.now in
    let w = limits_of g.met.K.GroupKind.lawful s in
    omega (arith, w.field_small, row_small w s.row_groups_are c.group_rows.ensures c.requires.inside)

pub overflow_add-continued : goal.overflow_add-continued
overflow_add-continued g c =
    let s = c.args.self.now in
    let w = limits_of g.met.K.GroupKind.lawful s in
    let flag : c.if-more.continued ≤ 32768 = elim c.if-more.branch [
      | then-more x ↦ omega (arith, x.continued-is)
      | else-more x ↦ omega (arith, x.continued-is)
    ] in
    omega (arith, offset_small c.args.segment.first w s.row_groups_are c.group_columns.ensures)

pub overflow_cast-continued : goal.overflow_cast-continued
overflow_cast-continued g c =
    let s = c.args.self.now in
    let w = limits_of g.met.K.GroupKind.lawful s in
    let flag : c.if-more.continued ≤ 32768 = elim c.if-more.branch [
      | then-more x ↦ omega (arith, x.continued-is)
      | else-more x ↦ omega (arith, x.continued-is)
    ] in
    omega (arith, offset_small c.args.segment.first w s.row_groups_are c.group_columns.ensures)

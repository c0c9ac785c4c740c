use Rattle.std.proofs.Common.{ap, ◌∙◌}
use Rattle.theory.specs.Pictures.{put_row_after}
use Rattle.stores.specs.Fields.{field_picture}
use Rattle.stores.proofs.Rows.{found, row_through}
use Rattle.stores.proofs.field.FieldStore.put_row.Goals as goal

pub returns-clause-picture : goal.returns-clause-picture
returns-clause-picture g c =
    let v = g.S.Store.picture c.args.self.now.below in
    let f = c.args.self.now.field in
    let is = found v f c.args.plane c.args.row c.in_ok-row.row c.in_ok-row.ensures in
    ap (λ u. field_picture u f) (c.put_row.ensures.picture ∙ ap (λ n. put_row_after v c.args.plane n c.args.column c.args.samples.now) is.0)
    ∙ row_through v f c.args.plane c.args.row c.args.column c.args.samples.now is.1

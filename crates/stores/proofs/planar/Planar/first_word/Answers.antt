use Rattle.std.proofs.Common.{rules, ◌≡◌, ◌+◌, ◌*◌, ◌≤◌, arith}
use Rattle.stores.specs.Shapes.{plane_of, shape_words}
use Rattle.stores.proofs.Puts.{run_inside}
use Rattle.stores.proofs.planar.Planar.first_word.Goals as goal

within : (c : goal.Then-has_columns)
    → c.in-Some.plane.now.start + c.args.row * c.in-Some.plane.now.size.width + c.args.column + c.args.count ≤ shape_words c.args.self.now.shape
within c =
    let is : c.in-Some.plane.now ≡ plane_of c.args.self.now.shape c.args.plane = search rules in
    run_inside c.args.self.now.shape _ c.args.self.now.laid c.args.plane c.args.row c.args.column c.args.count
    c.in-Some.plane.now is c.if-has_columns.ensures

pub overflow_add-result : goal.overflow_add-result
overflow_add-result c = omega (arith, within c, c.args.self.now.laid.long)

pub overflow_add-result-in-Some : goal.overflow_add-result-in-Some
overflow_add-result-in-Some c = omega (arith, within c, c.args.self.now.laid.long)

pub returns-in-Some-clause-within : goal.returns-in-Some-clause-within
returns-in-Some-clause-within c = within c

use Rattle.std.proofs.Common.{ap, ◌∙◌, arith}
use Rattle.packed.specs.BitRuns.{spliced}
use Rattle.packed.proofs.Windows.{spliced_below, inner_shift, splice_shifts}
use Rattle.packed.proofs.bits.Window.spliced.Goals as goal

pub overflow_add-result : goal.overflow_add-result
overflow_add-result c =
    let w = c.args.self in
    omega (arith, inner_shift w.number c.shift-shift.result c.args.run.now.depth c.args.value w.below c.shift-shift.ensures.room c.requires)

pub overflow_add-result-2 : goal.overflow_add-result-2
overflow_add-result-2 c =
    let w = c.args.self in
    let s = c.shift-shift.result in
    let n = c.args.run.now.depth in
    let room = c.shift-shift.ensures.room in
    omega (arith, splice_shifts w.number s n c.args.value w.below room c.requires, spliced_below w.number s n c.args.value w.below room c.requires)

pub invariant_of-result : goal.invariant_of-result
invariant_of-result c =
    let w = c.args.self in
    let s = c.shift-shift.result in
    let n = c.args.run.now.depth in
    let room = c.shift-shift.ensures.room in
    record {
      below = omega (arith, splice_shifts w.number s n c.args.value w.below room c.requires, spliced_below w.number s n c.args.value w.below room c.requires);
    }

pub returns : goal.returns
returns c =
    let w = c.args.self in
    let n = c.args.run.now.depth in
    splice_shifts w.number c.shift-shift.result n c.args.value w.below c.shift-shift.ensures.room c.requires
    ∙ ap (λ s. spliced w.number s n c.args.value) c.shift-shift.ensures.value

use Rattle.std.proofs.Common.{◌^◌, ◌<◌, ◌≢◌, length, ◌∙◌, arith, get_or-set_other, get_or-set_same, below_more}
use Rattle.std.specs.Int.Digits.{number_from_digits}
use Rattle.std.proofs.lemmas.List.FromFn.{fill_by_all}
use Rattle.theory.specs.Octets.{digit}
use Rattle.kinds.proofs.packing.Packing.read.Goals as goal

pub loop-k-preserved : goal.loop-k-preserved
loop-k-preserved c =
    below_more _ _
    (λ j h. let ne : j ≢ c.loop-k.k = omega arith in rw get_or-set_other (c.loop-k.invariant j h))
    (let lt : c.loop-k.k < length c.loop-k.samples = omega arith in rw get_or-set_same c.sample.ensures)

pub returns : goal.returns
returns c =
    let p = c.args.self in
    fill_by_all (digit p.depth p.positions (number_from_digits 256 c.args.group.now)) c.loop-k.samples p.positions 0
    (omega (arith, c.requires.complete)) (λ j h. c.loop-k.invariant j (omega (arith, c.requires.complete)))

use Rattle.std.proofs.Common.{◌^◌, ◌<◌, ◌≢◌, length, ◌∙◌, arith, get_or-set_other, get_or-set_same, below_more}
use Rattle.std.specs.Int.Digits.{number_from_digits}
use Rattle.std.proofs.lemmas.List.FromFn.{fill_by_all}
use Rattle.theory.specs.Octets.{digit}
use Rattle.kinds.proofs.packing.Packing.write.Goals as goal

pub loop-i-preserved : goal.loop-i-preserved
loop-i-preserved c =
    below_more _ _
    (λ j h. let ne : j ≢ c.loop-i.i = omega arith in rw get_or-set_other (c.loop-i.invariant j h))
    (let lt : c.loop-i.i < length c.loop-i.group = omega arith in rw get_or-set_same c.octet.ensures)

pub returns : goal.returns
returns c =
    let p = c.args.self in
    fill_by_all (digit 8 p.octets (number_from_digits (2 ^ p.depth) c.args.samples.now)) c.loop-i.group p.octets 0
    (omega (arith, c.requires.whole)) (λ j h. c.loop-i.invariant j (omega (arith, c.requires.whole)))

use Rattle.std.proofs.Common.{◌≡◌, ◌*◌, ◌<◌, ◌≤◌, length, map, get_or, sym, ap, ◌∙◌, arith}
use Rattle.std.proofs.lemmas.List.{length-map, get_or-map}
use Rattle.kinds.proofs.Numbers.{number_step}
use Rattle.kinds.proofs.packing.number.Goals as goal

pub loop-digit-preserved : goal.loop-digit-preserved
loop-digit-preserved g c =
    let value = g.T.Digit.value in
    let ds = c.args.digits.now in
    let i = c.loop-digit.digit-index in
    let same = length-map ds value in
    let digit : c.value.result ≡ get_or (map value ds) i 0 = c.value.ensures ∙ ap value c.digit-item.is ∙ sym (get_or-map value ds i c.digit-item.result 0 c.loop-digit-test.true) in
    number_step c.args.width 64 (map value ds) i c.loop-digit.n c.value.result
    c.requires.small (omega (arith, same, c.loop-digit-test.true)) (rw same c.requires.few) c.loop-digit.invariant digit

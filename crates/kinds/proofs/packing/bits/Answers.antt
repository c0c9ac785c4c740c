use Rattle.std.proofs.Common.{◌≡◌, ◌+◌, ◌-◌, ◌*◌, ◌/◌, ◌%◌, ◌^◌, ◌<◌, length, map, take, drop, sym, ap, ◌∙◌, bit_and, arith}
use Rattle.std.specs.Int.Digits.{number_from_digits}
use Rattle.std.proofs.ByRecursion.{All-take, All-drop}
use Rattle.std.proofs.lemmas.Nat.{and_mask, one_shl}
use Rattle.std.proofs.lemmas.List.{length-map, take-map, drop-map}
use Rattle.std.proofs.lemmas.List.Edits.{length-between}
use Rattle.theory.proofs.Fields.{field}
use Rattle.kinds.proofs.Spans.{Span, span}
use Rattle.kinds.proofs.packing.bits.Goals as goal

pub number-window-requires-clause-few : goal.number-window-requires-clause-few
number-window-requires-clause-few g c =
    let d = c.args.width in
    let first = c.args.start / d in
    let last = c.div_ceil-last.result in
    let at = span d (length c.args.digits.now) c.args.start c.args.count last c.requires.width.0 c.requires.inside c.div_ceil-last.ensures in
    omega (arith, at.few, ap (λ n. d * n) (length-between c.args.digits.now first last at.within))

pub number-window-requires-clause-small : goal.number-window-requires-clause-small
number-window-requires-clause-small g c =
    let vs = map g.T.Digit.value c.args.digits.now in
    let first = c.args.start / c.args.width in
    let n = c.div_ceil-last.result - first in
    rw (← take-map g.T.Digit.value n (drop first c.args.digits.now), ← drop-map g.T.Digit.value first c.args.digits.now)
    (All-take (λ x. x < 2 ^ c.args.width) n (drop first vs) (All-drop (λ x. x < 2 ^ c.args.width) first vs c.requires.small))

pub returns : goal.returns
returns g c =
    let value = g.T.Digit.value in
    let ds = c.args.digits.now in
    let vs = map value ds in
    let d = c.args.width in
    let w = c.args.count in
    let end = c.args.start + w in
    let first = c.args.start / d in
    let last = c.div_ceil-last.result in
    let at : Span d (length vs) c.args.start w first last = rw length-map (span d (length ds) c.args.start w last c.requires.width.0 c.requires.inside c.div_ceil-last.ensures) in
    let t = last * d - end in
    let mask : (1 * 2 ^ w) % 2 ^ 64 - 1 ≡ 2 ^ w - 1 = ap (λ x. x - 1) (one_shl w 64 (omega arith)) in
    ap (λ x. bit_and (c.number-window.result / 2 ^ t) x) mask
    ∙ and_mask (c.number-window.result / 2 ^ t) w
    ∙ ap (λ x. x / 2 ^ t % 2 ^ w) c.number-window.ensures
    ∙ ap (λ xs. number_from_digits (2 ^ d) xs / 2 ^ t % 2 ^ w) (sym (ap (take (last - first)) (drop-map value first ds) ∙ take-map value (last - first) (drop first ds)))
    ∙ sym (field d vs first last end w c.requires.small at.order at.within (omega (arith, at.begins)) at.ends)
    ∙ ap (λ n. number_from_digits (2 ^ d) vs / 2 ^ (n * d - end) % 2 ^ w) (length-map ds value)

use Rattle.std.proofs.Common.{◌≡◌, ◌+◌, ◌-◌, ◌*◌, ◌/◌, ◌%◌, ◌^◌, ◌<◌, length, map, ap, ◌∙◌, arith}
use Rattle.std.specs.Int.Digits.{AllBelowBase, number_from_digits}
use Rattle.std.proofs.ByRecursion.{All-from_get_or}
use Rattle.std.proofs.lemmas.List.{map-id}
use Rattle.theory.proofs.Fields.{after_digit}
use Rattle.kinds.proofs.packing.Packing.sample.Goals as goal

pub bits-requires-clause-small : goal.bits-requires-clause-small
bits-requires-clause-small c = rw map-id (All-from_get_or (λ x. x < 256) c.args.group.now 0 (λ i _. (c.type_inv.group i).fits))

pub returns : goal.returns
returns c =
    let p = c.args.self in
    let os = c.args.group.now in
    c.bits.ensures
    ∙ ap (λ xs. number_from_digits 256 xs / 2 ^ (length os * 8 - (c.args.k * p.depth + p.depth)) % 2 ^ p.depth) (map-id os)
    ∙ ap (λ x. number_from_digits 256 os / 2 ^ x % 2 ^ p.depth) (omega (arith, c.requires.whole, p.bits, after_digit p.positions p.depth c.args.k c.requires.inside))

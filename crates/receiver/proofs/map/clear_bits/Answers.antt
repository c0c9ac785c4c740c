use Rattle.std.proofs.Common.{rules, ◌≡◌, ◌<◌, ◌+◌, ◌*◌, ◌/◌, ◌^◌, ◌≤◌, ◌∙◌, not, ap, get_or, take, length, arith}
use Rattle.std.proofs.iter.runs.Made.{chains}
use Rattle.std.specs.Int.{count_zeros, w8}
use Rattle.std.specs.List.{sum_by}
use Rattle.theory.specs.Octets.{bit, count_below}
use Rattle.receiver.proofs.Counting.{clear_octets, clear_bits, count_le}
use Rattle.receiver.proofs.map.clear_bits.Goals as goal

pub sum-clear-requires-clause-fits : goal.sum-clear-requires-clause-fits
sum-clear-requires-clause-fits c =
    let n = c.args.bits / 8 in
    let m = c.args.map.now in
    let all = clear_octets m (λ i _. (c.type_inv.map i).fits) n (omega arith) in
    let few : sum_by (count_zeros w8) (take n m) < 2 ^ 64 = omega (arith, all, count_le (λ k. not (bit m k)) (8 * n)) in
    search (rules, chains)

counted : (c : goal.After-clear_low_bits) → c.sum-clear.result + c.clear_low_bits.result ≡ count_below c.args.bits (λ k. not (bit c.args.map.now k))
counted c =
    let m = c.args.map.now in
    let octet : c.in-Some.octet.now ≡ get_or m (c.args.bits / 8) 0 = search rules in
    let whole : c.sum-clear.result ≡ sum_by (count_zeros w8) (take (c.args.bits / 8) m) = search rules in
    clear_bits m (λ i _. (c.type_inv.map i).fits) c.args.bits c.in-Some.octet.now _ _ (omega arith) octet whole c.clear_low_bits.ensures

pub overflow_add-result : goal.overflow_add-result
overflow_add-result c = omega (arith, counted c, count_le (λ k. not (bit c.args.map.now k)) c.args.bits)

pub returns-in-Some : goal.returns-in-Some
returns-in-Some c = counted c

pub returns-in-None : goal.returns-in-None
returns-in-None c =
    let m = c.args.map.now in
    let n = c.args.bits / 8 in
    let whole : c.sum-clear.result ≡ sum_by (count_zeros w8) (take n m) = search rules in
    let past : length m ≤ n = search rules in
    let e : 8 * n ≡ c.args.bits = omega arith in
    whole ∙ clear_octets m (λ i _. (c.type_inv.map i).fits) n (omega arith) ∙ ap (λ x. count_below x (λ k. not (bit m k))) e

use Rattle.std.proofs.Common.{rules, ◌∙◌, arith}
use Rattle.std.proofs.lemmas.Iterator.{YieldsList-from_range, YieldsList-from_map}
use Rattle.std.proofs.lemmas.Iterator.Adapters.{fits_from_length, at_most_from_yields_List}
use Rattle.std.proofs.lemmas.Iterator.Consumers.{sum_from_yields_List}
use Rattle.std.proofs.lemmas.List.FromFn.{length-range_with_len}
use Rattle.theory.specs.Packets.{srd_length}
use Rattle.packets.proofs.Searches.{lengths_summed}
use Rattle.packets.proofs.fields.Fields.lengths.Goals as goal

pub sum-octets-requires-clause-fits : goal.sum-octets-requires-clause-fits
sum-octets-requires-clause-fits c =
    let n = c.args.n in
    fits_from_length _ _ 255 _ (at_most_from_yields_List (YieldsList-from_range 0 n n (cc) (omega arith)) (omega (arith, length-range_with_len 0 n, c.ranges.n.fits)))
    c.map.ensures.closure (omega arith) (λ x r q k. search rules)

pub returns-clause-value : goal.returns-clause-value
returns-clause-value c =
    let n = c.args.n in
    let q = c.args.self.now.octets.now in
    sum_from_yields_List c.map.result _ c.sum-octets.ensures.ran
    (YieldsList-from_map _ (srd_length q) (YieldsList-from_range 0 n n (cc) (omega arith)) c.map.ensures.closure (λ x r q k. search rules))
    ∙ lengths_summed q n

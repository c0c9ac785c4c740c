use Rattle.std.proofs.Common.{rules, ◌≡◌, ◌<◌, length, ap, ◌∙◌}
use Rattle.std.proofs.ByRecursion.{All-from_get_or}
use Rattle.theory.specs.Groups.{samples_of_octets, octets_of_samples}
use Rattle.theory.proofs.Values.{groups_round_trip}
use Rattle.kinds.proofs.packing.unpack_all.Goals as goal

pub returns-in-Some-clause-back : goal.returns-in-Some-clause-back
returns-in-Some-clause-back g c _ =
    let d = c.args.depth in
    let l = (g.K.GroupKind.kind c.args.kind.now).layout d in
    let os = c.args.group.now in
    let some : 0 < l.octets = search rules in
    let size : length os ≡ l.octets = search rules in
    let apart : c.read.new.samples ≡ samples_of_octets l d os = search rules in
    ap (octets_of_samples l d) apart
    ∙ (groups_round_trip _ (g.met.K.GroupKind.lawful c.args.kind.now) d some).octets_back os size (All-from_get_or (λ x. x < 256) os 0 (λ i _. (c.type_inv.group i).fits))

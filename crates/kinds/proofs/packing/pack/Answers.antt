use Rattle.std.proofs.Common.{rules, ◌≡◌, ◌^◌, ◌<◌, length, sym, subst}
use Rattle.std.specs.Int.Digits.{AllBelowBase}
use Rattle.std.proofs.lemmas.Bool.{and_parts}
use Rattle.theory.specs.Groups.{octets_of_samples}
use Rattle.theory.proofs.Values.{groups_round_trip}
use Rattle.kinds.specs.Packing.{ReadsBack}
use Rattle.kinds.proofs.Tested.{under_decides}
use Rattle.kinds.proofs.packing.pack.Goals as goal

pub write-requires-clause-small : goal.write-requires-clause-small
write-requires-clause-small g c = (under_decides (2 ^ c.in-Some.packing.depth) c.args.samples.now).0 (and_parts _ _ (sym c.if-takes.ensures)).1

pub returns-in-Some-clause-back : goal.returns-in-Some-clause-back
returns-in-Some-clause-back g c _ =
    let d = c.args.depth in
    let l = (g.K.GroupKind.kind c.args.kind.now).layout d in
    let xs = c.args.samples.now in
    let some : 0 < l.octets = search rules in
    let size : length xs ≡ l.positions = search rules in
    let small : AllBelowBase (2 ^ d) xs = (under_decides (2 ^ d) xs).0 (search rules) in
    let built : c.write.new.group ≡ octets_of_samples l d xs = search rules in
    subst (ReadsBack l d xs) (sym built) ((groups_round_trip _ (g.met.K.GroupKind.lawful c.args.kind.now) d some).samples_back xs size small)

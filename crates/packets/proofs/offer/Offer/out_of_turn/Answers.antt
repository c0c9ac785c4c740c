use Rattle.std.proofs.Common.{rules, ℕ, ◌-◌, Bool, arith}
use Rattle.std.proofs.lemmas.Iterator.{YieldsList-from_range, cases_from_any}
use Rattle.formats.specs.Meaning.{part_of}
use Rattle.theory.specs.Packets.{headers}
use Rattle.packets.specs.Headers.{turn_breaks}
use Rattle.packets.proofs.Searches.{Passes, Fails, searched}
use Rattle.packets.proofs.offer.Offer.out_of_turn.Goals as goal

pub returns : goal.returns
returns g c =
    let q = c.args.self.now.packet.octets.now in
    let n = headers q - 1 in
    let rule : ℕ → Bool = turn_breaks (part_of g.K.GroupKind.kind c.args.self.now.part.now) q in
    searched rule n _
    (cases_from_any _ _ _ (Passes rule) (Fails rule) c.any.ensures.ran (YieldsList-from_range 0 n n (cc) (omega arith)) (λ x q k. search rules) (λ x q k. search rules))

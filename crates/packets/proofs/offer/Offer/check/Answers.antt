use Rattle.std.proofs.Common.{Err, ap, ◌∙◌}
use Rattle.std.proofs.lemmas.Result.{err_from_is_err_and}
use Rattle.refusals.specs.Numbers.{number_of, numbered}
use Rattle.formats.specs.Meaning.{part_of}
use Rattle.packets.proofs.Answers.{limits_refuse, limits_pass}
use Rattle.packets.proofs.offer.Offer.check.Goals as goal

pub returns-in_err-check : goal.returns-in_err-check
returns-in_err-check g c =
    let t = part_of g.K.GroupKind.kind c.args.self.now.part.now in
    let p = err_from_is_err_and c.from_residual.result c.from_residual.ensures.1 in
    ap numbered p.1 ∙ ap (λ e. Err (number_of e)) p.2 ∙ limits_refuse t c.args.self.now.packet.octets.now _ c.in_err-check.ensures

pub returns : goal.returns
returns g c =
    let t = part_of g.K.GroupKind.kind c.args.self.now.part.now in
    c.check_packet.ensures ∙ limits_pass t c.args.self.now.packet.octets.now c.in_ok-check.ensures

use Rattle.std.proofs.Common.{Ok, Err, ap, ◌∙◌}
use Rattle.std.proofs.lemmas.Result.{err_from_is_err_and}
use Rattle.refusals.specs.Numbers.{number_of}
use Rattle.formats.specs.Meaning.{part_of}
use Rattle.packets.specs.Carried.{outcome}
use Rattle.packets.proofs.Answers.{refused, accepted, sound, same_carried}
use Rattle.packets.proofs.packet.Packet.read.Goals as goal

pub returns-in_err-check-clause-answer : goal.returns-in_err-check-clause-answer
returns-in_err-check-clause-answer g c =
    let t = part_of g.K.GroupKind.kind c.args.part.now in
    let p = err_from_is_err_and c.from_residual.result c.from_residual.ensures.1 in
    ap outcome p.1 ∙ ap (λ e. Err (number_of e)) p.2 ∙ refused t c.args.octets.now _ c.in_err-check.ensures

pub returns : goal.returns
returns g c =
    let t = part_of g.K.GroupKind.kind c.args.part.now in
    let q = c.args.octets.now in
    let law = g.met.K.GroupKind.lawful c.args.part.now.format.kind in
    let same = same_carried q _ _ _ _ _ _ c.group_octets.ensures c.group_columns.ensures c.group_rows.ensures in
    let answer = ap Ok same ∙ accepted t q c.in_ok-check.ensures in
    record { answer = answer; sound = λ _. sound t q law _ answer }

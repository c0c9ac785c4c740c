use Rattle.std.proofs.Common.{Err, sym, ap, ◌∙◌}
use Rattle.std.proofs.lemmas.Result.{err_from_is_err_and}
use Rattle.refusals.specs.Numbers.{number_of}
use Rattle.formats.specs.declared.part.Part.{Part}
use Rattle.formats.specs.Meaning.{part_of}
use Rattle.theory.specs.Answers.{unless}
use Rattle.sender.specs.Drawing.{State, answered}
use Rattle.sender.proofs.Outcomes.{part_has_field, part_passes, part_refuses}
use Rattle.sender.proofs.sending.Sending.open.Goals as goal

pub returns-in_err-check : goal.returns-in_err-check
returns-in_err-check g c =
    let part : Part g.row.K.Denot = record { format = c.args.format; timestamp = c.args.timestamp; field = c.args.field } in
    let start : State g.row.K.Denot = record { part = part; sequence = c.args.sequence; group = 0 } in
    let p = err_from_is_err_and c.from_residual.result c.from_residual.ensures.1 in
    ap answered p.1 ∙ ap (λ e. Err (number_of e)) p.2
    ∙ ap (λ r. unless r start) (sym (part_refuses (part_of g.K.GroupKind.kind part) _ c.in_err-check.ensures))

pub invariant_of-result : goal.invariant_of-result
invariant_of-result g c =
    let part : Part g.row.K.Denot = record { format = c.args.format; timestamp = c.args.timestamp; field = c.args.field } in
    record { allowed = part_has_field (part_of g.K.GroupKind.kind part) c.in_ok-check.ensures }

pub returns : goal.returns
returns g c =
    let part : Part g.row.K.Denot = record { format = c.args.format; timestamp = c.args.timestamp; field = c.args.field } in
    let start : State g.row.K.Denot = record { part = part; sequence = c.args.sequence; group = 0 } in
    ap (λ r. unless r start) (sym (part_passes (part_of g.K.GroupKind.kind part) c.in_ok-check.ensures))

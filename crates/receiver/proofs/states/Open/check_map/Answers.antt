use Rattle.receiver.specs.Opening.{part_open}
use Rattle.receiver.proofs.Checks.{handed_on, format_refused}
use Rattle.receiver.proofs.states.Open.check_map.Goals as goal

pub returns-in_err-check-clause-answer : goal.returns-in_err-check-clause-answer
returns-in_err-check-clause-answer g c =
    handed_on _ _ c.from_residual.result c.from_residual.ensures.1
    (format_refused (part_open g.K.GroupKind.kind c.args.self.now) c.args.map.now _ c.in_err-check.ensures)

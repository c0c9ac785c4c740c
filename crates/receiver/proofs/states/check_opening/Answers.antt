use Rattle.formats.specs.Meaning.{part_of}
use Rattle.receiver.proofs.Checks.{handed_on, part_refused}
use Rattle.receiver.proofs.states.check_opening.Goals as goal

pub returns-in_err-check-clause-answer : goal.returns-in_err-check-clause-answer
returns-in_err-check-clause-answer g c =
    handed_on _ _ c.from_residual.result c.from_residual.ensures.1
    (part_refused (part_of g.K.GroupKind.kind c.args.part.now) c.args.map.now _ c.in_err-check.ensures)

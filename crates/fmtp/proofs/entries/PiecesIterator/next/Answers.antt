use Rattle.std.proofs.Common.{ap, ◌∙◌}
use Rattle.std.specs.Option.{option_copied}
use Rattle.fmtp.specs.Borrowed.{pieces_behind, with_last}
use Rattle.fmtp.proofs.Pieces.{pieces_step, some_mapped, shorter}
use Rattle.fmtp.proofs.entries.PiecesIterator.next.Goals as goal

pub returns-clause-steps : goal.returns-clause-steps
returns-clause-steps c =
    let parts = c.split_at_first.ensures in
    ap (λ o. with_last (pieces_behind (option_copied o))) c.in_ok-self.was
    ∙ pieces_step c.in_ok-self.field-0.now _ _ parts.front parts.rest _ (some_mapped (λ x. x.now) c.split_at_first.result.1 ∙ c.is_none.ensures)

pub returns-clause-goes : goal.returns-clause-goes
returns-clause-goes c = record { on = λ _. (tt, tt, shorter _ _ _ (returns-clause-steps c)); keeps = tt; rests = λ _. tt }

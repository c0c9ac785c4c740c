use Rattle.std.proofs.Common.{◌≡◌, [], None, sym, ap, ◌∙◌, subst, rules}
use Rattle.std.specs.Iterator.{YieldsFirstBy}
use Rattle.std.specs.Option.{option_copied, option_map}
use Rattle.fmtp.specs.Borrowed.{text_of, entries_left, pieces_behind}
use Rattle.fmtp.specs.Lines.{entries_in, with_entry}
use Rattle.fmtp.proofs.Pieces.{entries_step, shorter}
use Rattle.fmtp.proofs.entries.EntriesIterator.next.Goals as goal

pub returns-in_err-entry-clause-steps : goal.returns-in_err-entry-clause-steps
returns-in_err-entry-clause-steps c =
    let parts = c.split_at_first.ensures in
    let step = entries_step c.in_ok-take.field-0.now _ _ parts.front parts.rest _ _ c.without_blanks.ensures c.parse.ensures in
    let left : entries_left c.args.self.now ≡ [] =
    ap (λ o. entries_in (pieces_behind (option_copied o))) (sym c.take.ensures.value ∙ c.in_ok-take.was)
    ∙ step ∙ ap (λ o. with_entry (option_map text_of o) (entries_in (pieces_behind (option_copied c.split_at_first.result.1)))) c.in_err-entry.was in
    let none : c.from_residual-in_err-entry.result ≡ None = search rules in
    subst (λ o. YieldsFirstBy text_of entries_left c.args.self.now o (record { rest = c.take.new.self })) (sym none)
    (left, ap (λ o. entries_in (pieces_behind (option_copied o))) c.take.ensures.after)

pub returns-clause-steps : goal.returns-clause-steps
returns-clause-steps c =
    let parts = c.split_at_first.ensures in
    let step = entries_step c.in_ok-take.field-0.now _ _ parts.front parts.rest _ _ c.without_blanks.ensures c.parse.ensures in
    ap (λ o. entries_in (pieces_behind (option_copied o))) (sym c.take.ensures.value ∙ c.in_ok-take.was)
    ∙ step ∙ ap (λ o. with_entry (option_map text_of o) (entries_in (pieces_behind (option_copied c.split_at_first.result.1)))) c.in_ok-entry.was

pub returns-clause-goes : goal.returns-clause-goes
returns-clause-goes c = record { on = λ _. (tt, tt, shorter _ _ _ (returns-clause-steps c)); keeps = tt; rests = λ _. tt }

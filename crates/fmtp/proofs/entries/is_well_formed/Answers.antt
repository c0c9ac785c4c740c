use Rattle.std.proofs.Common.{is_some, true, sym, ap, ◌∙◌, refl, rules, tests}
use Rattle.std.specs.Option.{option_copied}
use Rattle.std.proofs.lemmas.Iterator.Search.{all_from_yields_List}
use Rattle.std.proofs.lemmas.Iterator.Consumers.{YieldsList-from_first}
use Rattle.fmtp.specs.Lines.{later_piece}
use Rattle.fmtp.specs.Borrowed.{text_of, piece_of, pieces_behind, pieces_left}
use Rattle.fmtp.proofs.Pieces.{well_formed_step, later_all, some_mapped}
use Rattle.fmtp.proofs.entries.is_well_formed.Goals as goal

pub returns-then-is_some : goal.returns-then-is_some
returns-then-is_some c =
    let parts = c.split_at_first.ensures in
    let later = all_from_yields_List (λ p. later_piece p.1 p.0) c.all.new.self _ c.all.result c.all.ensures.ran
    (YieldsList-from_first piece_of pieces_left _ refl) (λ x b q k. search (rules, tests)) in
    let entry = c.if-is_some.ensures ∙ sym (some_mapped text_of c.parse.result) ∙ ap is_some c.parse.ensures in
    later ∙ sym (later_all (pieces_behind (option_copied c.split_at_first.result.1)))
    ∙ sym (well_formed_step c.args.line.now _ _ parts.front parts.rest true c.if-is_empty.ensures entry)

pub returns-else-is_some : goal.returns-else-is_some
returns-else-is_some c =
    let parts = c.split_at_first.ensures in
    let entry = c.if-is_some.ensures ∙ sym (some_mapped text_of c.parse.result) ∙ ap is_some c.parse.ensures in
    c.if-is_some.false ∙ sym (well_formed_step c.args.line.now _ _ parts.front parts.rest _ c.if-is_empty.ensures entry)

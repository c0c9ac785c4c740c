use Rattle.std.proofs.Common.{refl, rules, tests}
use Rattle.std.proofs.lemmas.Iterator.Search.{find_from_yields_List}
use Rattle.std.proofs.lemmas.Iterator.Consumers.{YieldsList-from_first}
use Rattle.fmtp.specs.Borrowed.{text_of, entries_left}
use Rattle.fmtp.specs.Parameters.{parameter_text}
use Rattle.fmtp.specs.Reading.{has_name}
use Rattle.fmtp.proofs.entries.Entries.entry_of.Goals as goal

pub returns : goal.returns
returns c =
    find_from_yields_List (has_name (parameter_text c.args.parameter)) c.find.new.self _ c.find.result c.find.ensures.ran
    (YieldsList-from_first text_of entries_left _ refl) (λ x b q k. search (rules, tests))

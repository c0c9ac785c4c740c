use Rattle.std.proofs.Common.{refl, rules, tests}
use Rattle.std.proofs.lemmas.Iterator.Search.{all_from_yields_List}
use Rattle.std.proofs.lemmas.Iterator.Consumers.{YieldsList-from_first}
use Rattle.fmtp.specs.Borrowed.{text_of, entries_left}
use Rattle.fmtp.specs.Parameters.{permitted}
use Rattle.fmtp.proofs.reader.is_all_permitted.Goals as goal

pub returns : goal.returns
returns c =
    all_from_yields_List permitted c.all.new.self _ c.all.result c.all.ensures.ran
    (YieldsList-from_first text_of entries_left _ refl) (λ x b q k. search (rules, tests))

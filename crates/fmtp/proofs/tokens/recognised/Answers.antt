use Rattle.std.proofs.Common.{rules, tests, ◌∙◌}
use Rattle.std.specs.Str.{bytes_eq}
use Rattle.std.proofs.lemmas.Iterator.{YieldsList-from_slice}
use Rattle.std.proofs.lemmas.Iterator.Search.{find_from_yields_List}
use Rattle.fmtp.proofs.tokens.recognised.Goals as goal

pub returns : goal.returns
returns g c = c.copied.ensures ∙ find_from_yields_List (λ v. bytes_eq (g.T.Token.spelling v) c.args.text.now) _ _ c.find.result c.find.ensures.ran
    (YieldsList-from_slice g.T.Token.values cc) (λ x b q k. search (rules, tests))

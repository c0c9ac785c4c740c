use Rattle.std.proofs.Common.{drop, ap, ◌∙◌, rules, tests}
use Rattle.std.proofs.lemmas.List.{take_rest}
use Rattle.std.proofs.lemmas.List.Folds.{length-prefix_len}
use Rattle.std.proofs.lemmas.Iterator.{YieldsList-from_slice}
use Rattle.std.proofs.lemmas.Iterator.Search.{YieldsList-from_take_while}
use Rattle.std.proofs.lemmas.Iterator.Consumers.{YieldsList-at, count_from_yields_List}
use Rattle.fmtp.specs.Lines.{blank}
use Rattle.fmtp.proofs.texts.without_blanks.Goals as goal

pub returns : goal.returns
returns c =
    let text = c.args.text.now in
    let count = count_from_yields_List c.take_while.result c.count-blanks.result c.count-blanks.ensures.ran
    (YieldsList-from_take_while _ blank (YieldsList-at c.take_while.ensures.source (YieldsList-from_slice text cc))
    c.take_while.ensures.closure c.take_while.ensures.done (λ x b q k. search (rules, tests))) in
    take_rest text c.count-blanks.result ∙ ap (λ n. drop n text) (count ∙ length-prefix_len blank text)

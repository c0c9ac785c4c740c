use Rattle.std.proofs.Common.{true, ◌&&◌, ◌∙◌, tests, rules}
use Rattle.std.proofs.lemmas.Iterator.{YieldsList-from_slice}
use Rattle.std.proofs.lemmas.Iterator.Consumers.{fold_from_yields_List}
use Rattle.fmtp.specs.Lines.{visible}
use Rattle.fmtp.proofs.Folds.{all_folded}
use Rattle.fmtp.proofs.entries.all_visible.Goals as goal

pub returns : goal.returns
returns c =
    let xs = c.args.text.now in
    fold_from_yields_List _ (λ all x. all && visible x) true c.fold.result c.fold.ensures.ran (YieldsList-from_slice xs cc) (λ a x b q k. search (rules, tests))
    ∙ all_folded visible xs

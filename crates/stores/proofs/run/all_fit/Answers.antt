use Rattle.std.proofs.Common.{ℕ, ◌^◌, Bool, true, ◌&&◌, leb, ap, ◌∙◌, tests, rules}
use Rattle.std.specs.List.{fold}
use Rattle.std.proofs.lemmas.Nat.{pow_pos}
use Rattle.std.proofs.lemmas.Iterator.{YieldsList-from_slice}
use Rattle.std.proofs.lemmas.Iterator.Consumers.{fold_from_yields_List}
use Rattle.stores.proofs.Columns.{all_folded, largest_below}
use Rattle.stores.proofs.run.all_fit.Goals as goal

pub returns : goal.returns
returns c =
    let xs = c.args.values.now in
    let test = ap (λ m x. leb x m) c.largest-most.ensures ∙ largest_below (2 ^ c.args.depth) (pow_pos c.args.depth) in
    fold_from_yields_List _ (λ fit x. fit && leb x c.largest-most.result) true c.fold.result c.fold.ensures.ran (YieldsList-from_slice xs cc) (λ a x b q k. search (rules, tests))
    ∙ ap (λ (p : ℕ → Bool). fold (λ fit x. fit && p x) true xs) test
    ∙ all_folded _ xs

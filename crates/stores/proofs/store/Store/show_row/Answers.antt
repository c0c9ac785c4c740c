use Rattle.std.proofs.Common.{ℕ, ◌+◌, length, sym, ◌∙◌, arith}
use Rattle.std.proofs.lemmas.List.FromFn.{fill_by_all}
use Rattle.std.proofs.lemmas.Bool.{cond-true}
use Rattle.stores.proofs.Columns.{columns_told}
use Rattle.stores.proofs.store.Store.show_row.Goals as goal

pub returns-clause-samples : goal.returns-clause-samples
returns-clause-samples g c =
    let v = g.Self.Store.picture c.args.self.now in
    let xs = c.args.samples.now in
    let f : ℕ → ℕ = λ i. v.sample c.args.plane c.args.row (c.args.column + i) in
    let all =
    columns_told v c.args.plane c.args.row c.args.column (length xs)
    c.height.result c.width.result c.height.ensures c.width.ensures c.if-not-has_columns.ensures in
    fill_by_all f c.loop-i.samples (length xs) 0 c.loop-i.auto.samples (λ k h. c.loop-i.invariant k (omega (arith, c.loop-i-test.false)))
    ∙ sym (cond-true _ _ xs all)

use Rattle.std.proofs.Common.{◌≡◌, ◌+◌, ◌^◌, true, ltb, length, get_or, sym, ap, ◌∙◌}
use Rattle.theory.specs.Octets.{all_below}
use Rattle.theory.specs.Pictures.{columns_inside, put_after}
use Rattle.stores.proofs.Columns.{columns_told, step_after, step_never_refused}
use Rattle.stores.proofs.store.Store.put_row.Given as given
use Rattle.stores.proofs.store.Store.put_row.Goals as goal
use Rattle.stores.proofs.store.Store.put_row.Goals.{Else-not-all_fit}

module _ (g : given.Over) (c : goal.Else-not-all_fit g) where
  fits : columns_inside (g.Self.Store.picture c.args.self.now) c.args.plane c.args.row c.args.column (length c.args.samples.now) ≡ true
  fits =
      columns_told (g.Self.Store.picture c.args.self.now) c.args.plane c.args.row c.args.column (length c.args.samples.now)
      c.height.result c.width.result c.height.ensures c.width.ensures c.if-not-has_columns.ensures

  below : all_below (length c.args.samples.now) (λ i. ltb (get_or c.args.samples.now i 0) (2 ^ (g.Self.Store.picture c.args.self.now).depth)) ≡ true
  below =
      ap (λ d. all_below (length c.args.samples.now) (λ i. ltb (get_or c.args.samples.now i 0) (2 ^ d))) (sym c.depth.ensures)
      ∙ sym c.if-not-all_fit.ensures

pub returns-in_err-put : goal.returns-in_err-put
returns-in_err-put g c =
    let v = g.Self.Store.picture c.args.self.now in
    let d = (goal.at.returns-in_err-put g c).Else-not-all_fit in
    absurd (step_never_refused v c.args.plane c.args.row c.args.column c.args.samples.now (fits g d) (below g d)
    c.loop-i.i _ (g.Self.Store.picture c.loop-i.self) c.loop-i-test.true c.loop-i.invariant.0 c.in_err-put.ensures.answer)

pub loop-i-preserved : goal.loop-i-preserved
loop-i-preserved g c =
    let v = g.Self.Store.picture c.args.self.now in
    let p = c.args.plane in
    let r = c.args.row in
    let k = c.args.column in
    let xs = c.args.samples.now in
    let i = c.loop-i.i in
    let d = (goal.at.loop-i-preserved g c).Else-not-all_fit in (
      c.put.ensures.picture
          ∙ ap (λ u. put_after u p r (k + i) (get_or xs i 0)) c.loop-i.invariant.0
          ∙ step_after v p r k xs (fits g d) (below g d) i c.loop-i-test.true,
      c.put.ensures.rest ∙ c.loop-i.invariant.1,
    )

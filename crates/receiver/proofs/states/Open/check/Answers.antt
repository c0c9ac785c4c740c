use Rattle.std.proofs.Common.{sym, ◌∙◌}
use Rattle.receiver.specs.Opening.{part_open}
use Rattle.receiver.proofs.Checks.{handed_on, map_refused, store_refused}
use Rattle.receiver.proofs.states.Open.check.Goals as goal

pub returns-in_err-check_map-clause-answer : goal.returns-in_err-check_map-clause-answer
returns-in_err-check_map-clause-answer g c =
    handed_on _ _ c.from_residual.result c.from_residual.ensures.1
    (map_refused (part_open g.K.GroupKind.kind c.args.self.now) c.args.map.now (g.S.Store.picture c.args.store.now) _ c.in_err-check_map.ensures.answer)

pub returns-then-not-fits-clause-answer : goal.returns-then-not-fits-clause-answer
returns-then-not-fits-clause-answer g c =
    store_refused (part_open g.K.GroupKind.kind c.args.self.now) c.args.map.now (g.S.Store.picture c.args.store.now)
    c.in_ok-check_map.ensures.answer (sym c.fits.ensures ∙ c.if-not-fits.true)

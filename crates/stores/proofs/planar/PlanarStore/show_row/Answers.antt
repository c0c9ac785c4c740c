use Rattle.std.proofs.Common.{length, sym, ◌∙◌}
use Rattle.std.proofs.lemmas.Bool.{cond-true}
use Rattle.stores.specs.Shapes.{blank}
use Rattle.stores.proofs.Puts.{first_found}
use Rattle.stores.proofs.Columns.{words_shown}
use Rattle.stores.proofs.planar.PlanarStore.show_row.Goals as goal

pub returns-clause-samples : goal.returns-clause-samples
returns-clause-samples c =
    let s = c.args.self.now in
    let n = length c.args.samples.now in
    let found = first_found (blank s.shape) c.args.plane c.args.row c.args.column n c.in_ok-at.at c.in_ok-at.ensures.places in
    words_shown (blank s.shape) s.words.now c.args.plane c.args.row c.args.column n c.in_ok-at.at c.largest.result c.copy_masked.new.samples
    found.1 found.0 c.largest.ensures c.copy_masked.auto.samples c.copy_masked.ensures
    ∙ sym (cond-true _ _ c.args.samples.now found.1)

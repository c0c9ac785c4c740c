use Rattle.std.proofs.Common.{◌+◌, ◌-◌, length, sym, refl, ap, ◌∙◌, arith}
use Rattle.std.proofs.lemmas.Slice.{put_mid-paste, drop-put_mid}
use Rattle.stores.specs.Words.{in_words}
use Rattle.stores.specs.Shapes.{blank, shape_words}
use Rattle.stores.proofs.Puts.{first_found, words_inside}
use Rattle.stores.proofs.Columns.{row_written}
use Rattle.stores.proofs.planar.PlanarStore.put_row.Goals as goal

pub returns-clause-picture : goal.returns-clause-picture
returns-clause-picture c =
    let s = c.args.self.now in
    let v = blank s.shape in
    let xs = c.args.samples.now in
    let found = first_found v c.args.plane c.args.row c.args.column (length xs) c.in_ok-at.at c.in_ok-at.ensures.places in
    let lies = words_inside s.shape _ s.laid c.args.plane c.args.row c.args.column (length xs) found.1 in
    ap (in_words v) (put_mid-paste c.in_ok-at.at _ s.words.now _ xs (length xs) c.copy_from_slice.ensures.after (omega arith) refl)
    ∙ row_written v s.words.now c.args.plane c.args.row c.args.column xs (omega (arith, lies, s.laid.long)) found.1 (sym c.if-not-all_fit.ensures)
    c.in_ok-at.at found.0

pub returns-clause-rest : goal.returns-clause-rest
returns-clause-rest c =
    let s = c.args.self.now in
    let behind =
    drop-put_mid c.in_ok-at.at (c.in_ok-at.at + length c.args.samples.now - c.in_ok-at.at) s.words.now c.copy_from_slice.new.self
    (shape_words s.shape) (omega (arith, c.in_ok-at.ensures.within)) (omega (arith, c.in_ok-at.ensures.within, s.laid.long)) (omega (arith, ap length c.copy_from_slice.ensures.after)) in
    ap (λ l. (s.words.ghost_name, s.shape, l)) behind

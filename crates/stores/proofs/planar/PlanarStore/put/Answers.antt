use Rattle.std.proofs.Common.{◌^◌, sym, arith}
use Rattle.std.proofs.lemmas.Bool.{leb-false}
use Rattle.stores.specs.Shapes.{blank}
use Rattle.stores.proofs.Puts.{word_found, put_written}
use Rattle.stores.proofs.planar.PlanarStore.put.Goals as goal

pub returns-clause-picture : goal.returns-clause-picture
returns-clause-picture c =
    let s = c.args.self.now in
    let v = blank s.shape in
    let found = word_found v c.args.plane c.args.row c.args.column c.in_ok-at.at c.in_ok-at.ensures.place in
    put_written v s.words.now c.args.plane c.args.row c.args.column c.args.value c.in_ok-at.at found.0
    (omega (arith, c.in_ok-at.ensures.within, s.laid.long)) found.1 (leb-false (2 ^ s.shape.depth) c.args.value (sym c.if-is_large.ensures))

use Rattle.std.proofs.Common.{◌≡◌, length, ◌∙◌, arith}
use Rattle.std.proofs.lemmas.List.{length-take-le}
use Rattle.sender.specs.Rows.{word_at}
use Rattle.sender.proofs.Pieces.{packed_samples}
use Rattle.sender.proofs.packing.pack_group.Goals as goal

pub returns : goal.returns
returns g c =
    let d = g.D.Depth.depth c.args.depth.now in
    let m = g.K.GroupKind.kind c.args.kind.now in
    let n = c.positions-positions.result in
    let xs = c.loop-k.sample-items in
    let all : n ≡ (m.layout d).positions = cc in
    let long : length xs ≡ n = c.loop-k.auto.sample-items ∙ length-take-le n _ (omega (arith, c.requires.laws.positions_range)) in
    packed_samples m d c.bits-bits.result (word_at (m.layout d) c.args.words.now c.args.i) xs _ _ _ n c.bits-bits.ensures
    c.positions-positions.ensures long (λ k h. c.loop-k.invariant k (omega (arith, long, c.loop-k.auto.sample-items))) c.pack.ensures.memory

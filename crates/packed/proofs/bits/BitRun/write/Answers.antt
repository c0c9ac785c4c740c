use Rattle.std.proofs.Common.{◌-◌, ◌/◌, ◌%◌, ap, ◌∙◌, arith}
use Rattle.packed.specs.BitRuns.{bit_at, window_set, spliced}
use Rattle.packed.proofs.Windows.{put_run}
use Rattle.packed.proofs.bits.BitRun.write.Goals as goal

pub returns : goal.returns
returns c = λ k.
    let s = c.args.self.now in
    let m = c.args.octets.now in
    ap (λ l. bit_at l k) c.write.ensures
    ∙ ap (λ n. bit_at (window_set m (s.first / 8) n) k)
    (c.spliced.ensures ∙ ap (λ w. spliced w (24 - s.first % 8 - s.depth) s.depth c.args.value) c.of.ensures.is)
    ∙ put_run m s.first s.depth c.args.value c.of.ensures.octets (omega (arith, c.of.ensures.is, c.of.result.below)) s.narrow
    c.requires.small c.requires.room k

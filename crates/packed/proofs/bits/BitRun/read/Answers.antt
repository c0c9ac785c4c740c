use Rattle.std.proofs.Common.{◌-◌, ◌/◌, ◌%◌, ◌^◌, sym, ap, ◌∙◌, ap₂, arith}
use Rattle.std.proofs.lemmas.Nat.{one_shl}
use Rattle.packed.proofs.Windows.{run_of}
use Rattle.packed.proofs.bits.BitRun.read.Goals as goal

pub returns : goal.returns
returns c =
    let s = c.args.self.now in
    ap₂ (λ n k. c.of.result.number / 2 ^ n % k) c.shift.ensures.value (one_shl s.depth 32 (omega (arith, s.narrow)))
    ∙ ap (λ w. w / 2 ^ (24 - s.first % 8 - s.depth) % 2 ^ s.depth) c.of.ensures.is
    ∙ sym (run_of c.args.octets.now s.first s.depth c.of.ensures.octets s.narrow)

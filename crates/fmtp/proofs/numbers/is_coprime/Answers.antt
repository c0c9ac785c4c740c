use Rattle.std.proofs.lemmas.Nat.Gcd.{IsGcd-from_mod, IsGcd-from_zero}
use Rattle.fmtp.proofs.Decimal.{coprime_by_gcd}
use Rattle.fmtp.proofs.numbers.is_coprime.Goals as goal

pub loop-y-preserved : goal.loop-y-preserved
loop-y-preserved c = λ g h. c.loop-y.invariant g (IsGcd-from_mod c.loop-y.x c.loop-y.y g h)

pub returns : goal.returns
returns c =
    coprime_by_gcd c.args.a c.args.b c.loop-y.x c.requires.a_positive c.requires.b_positive
    (c.loop-y.invariant c.loop-y.x (IsGcd-from_zero c.loop-y.x c.loop-y.y c.loop-y-test.false))

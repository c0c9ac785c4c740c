use Rattle.std.proofs.Common.{sym}
use Rattle.fmtp.proofs.Decimal.{decimal_positive}
use Rattle.fmtp.proofs.numbers.ratio.Goals as goal

pub is_coprime-requires : goal.is_coprime-requires
is_coprime-requires c = record {
  a_positive = decimal_positive c.args.limit c.split_at_first.result.0.now _ (sym c.in_ok-numerator.ensures);
  b_positive = decimal_positive c.args.limit c.in_ok-rest.field-0.now _ (sym c.in_ok-denominator.ensures);
}

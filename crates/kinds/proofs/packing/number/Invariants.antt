use Rattle.std.proofs.Common.{◌≡◌, ◌^◌, map, take}
use Rattle.std.specs.Int.Digits.{number_from_digits}
use Rattle.kinds.proofs.packing.number.Given as goal

abbrev pub invariant-loop-digit : goal.invariant-loop-digit
invariant-loop-digit g l = l.n ≡ number_from_digits (2 ^ l.width) (take l.digit-index (map g.T.Digit.value l.digits))

use Rattle.std.proofs.Common.{◌≡◌, ℕ, ◌^◌, ◌<◌, get_or}
use Rattle.std.specs.Int.Digits.{number_from_digits}
use Rattle.theory.specs.Octets.{digit}
use Rattle.kinds.proofs.packing.Packing.write.Given as goal

abbrev pub invariant-loop-i : goal.invariant-loop-i
invariant-loop-i l = (j : ℕ) → j < l.i → get_or l.group j 0 ≡ digit 8 l.self.octets (number_from_digits (2 ^ l.self.depth) l.samples) j

use Rattle.std.proofs.Common.{◌≡◌, ℕ, ◌<◌, get_or}
use Rattle.std.specs.Int.Digits.{number_from_digits}
use Rattle.theory.specs.Octets.{digit}
use Rattle.kinds.proofs.packing.Packing.read.Given as goal

abbrev pub invariant-loop-k : goal.invariant-loop-k
invariant-loop-k l = (j : ℕ) → j < l.k → get_or l.samples j 0 ≡ digit l.self.depth l.self.positions (number_from_digits 256 l.group) j

use Rattle.std.proofs.Common.{◌≡◌, ℕ, ◌<◌, get_or}
use lib.Bits.{bit_and}
use Rattle.stores.proofs.run.copy_masked.Given as goal

abbrev pub invariant-loop-i : goal.invariant-loop-i
invariant-loop-i l = (k : ℕ) → k < l.i → get_or l.samples k 0 ≡ bit_and (get_or l.words k 0) l.mask

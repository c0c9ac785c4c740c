use Rattle.std.proofs.Common.{◌≤◌, length}
use Rattle.scripts.proofs.script.Script.next_if.Given as goal

abbrev pub invariant-loop-line : goal.invariant-loop-line
invariant-loop-line g l = length l.self.rest.now ≤ length l.fn.self.rest.now

abbrev pub decreases-loop-line : goal.decreases-loop-line
decreases-loop-line g l = length l.self.rest.now

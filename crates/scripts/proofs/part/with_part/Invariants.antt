use Rattle.std.proofs.Common.{◌≤◌, length}
use Rattle.scripts.proofs.part.with_part.Given as goal

abbrev pub invariant-loop-command : goal.invariant-loop-command
invariant-loop-command g l = length l.script.rest.now ≤ length l.fn.script.rest.now

abbrev pub decreases-loop-command : goal.decreases-loop-command
decreases-loop-command g l = length l.script.rest.now

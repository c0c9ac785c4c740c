use Rattle.std.proofs.Common.{length}
use Rattle.scripts.proofs.script.run_script.Given as goal

abbrev pub decreases-loop-command : goal.decreases-loop-command
decreases-loop-command l = length l.script.rest.now

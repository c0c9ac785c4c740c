use Rattle.theory.proofs.Readable.{readable}
use Rattle.theory.proofs.taken_packets_are_readable.Goals as goal

pub returns : goal.returns
returns c = readable

use Rattle.std.proofs.Common.{length}
use Rattle.sender.proofs.cutting.Segments.+write_headers.Given as goal

abbrev pub decreases-write_headers : goal.decreases-write_headers
decreases-write_headers g l = length l.out.now

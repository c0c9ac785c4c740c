use Rattle.std.proofs.Common.{rules}
use Rattle.packed.proofs.Makings.{same_empty}
use Rattle.packed.proofs.grid.Grid.empty.Goals as goal

pub returns : goal.returns
returns c = same_empty _ _ _ _ c.default.result (search rules) (search rules) (search rules)

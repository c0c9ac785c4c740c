use Rattle.std.proofs.Common.{◌≡◌, ℕ, ◌+◌, ◌<◌, get_or}
use Rattle.stores.proofs.store.Store.show_row.Given as goal

abbrev pub invariant-loop-i : goal.invariant-loop-i
invariant-loop-i g l = (k : ℕ) → k < l.i → get_or l.samples k 0 ≡ (g.Self.Store.picture l.self).sample l.plane l.row (l.column + k)

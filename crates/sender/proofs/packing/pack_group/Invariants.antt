use Rattle.std.proofs.Common.{◌≡◌, ℕ, ◌<◌, get_or}
use Rattle.sender.specs.Rows.{word_at}
use Rattle.sender.proofs.packing.pack_group.Given as goal

abbrev pub invariant-loop-k : goal.invariant-loop-k
invariant-loop-k g l =
    (j : ℕ) → j < l.k → get_or l.sample-items j 0 ≡ word_at ((g.K.GroupKind.kind l.kind).layout (g.D.Depth.depth l.depth)) l.words l.i j

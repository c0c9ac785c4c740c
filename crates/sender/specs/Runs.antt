-- How a walk over groups goes on from run to run.
use Rattle.std.specs.Prelude.{◌≡◌, ◌+◌, ◌*◌, ◌<◌, Option, MatchOption}
use Rattle.kinds.specs.declared.kind.GroupKind as GroupKind
use Rattle.stores.specs.declared.store.Store as Store
use Rattle.sender.specs.declared.runs.Run.{Run}
use Rattle.sender.specs.declared.runs.Runs.{Runs}

-- the run begins where the walk is, and the walk goes on behind it, up to its last group
pub record IsNextRun {K S : Type 0} {k : GroupKind.Ghosts K} {p : Store.Ghosts S} (before : Runs K S k p) (run : Run K S k p)
    (after : Runs K S k p) : Type 0 where
  pub source : run.source ≡ before.source
  pub first : run.unit_row * before.source.row_groups + run.place ≡ before.next
  pub some : 0 < run.groups
  pub kept : after.source ≡ before.source
  pub next : after.next ≡ before.next + run.groups
  pub left : after.left + run.groups ≡ before.left

abbrev pub WalksRuns : {K S : Type 0} {k : GroupKind.Ghosts K} {p : Store.Ghosts S} → Runs K S k p → Option (Run K S k p) → Runs K S k p → Type 0
WalksRuns before r after = MatchOption r ((before.left ≡ 0) × (after ≡ before)) (λ run. IsNextRun before run after)

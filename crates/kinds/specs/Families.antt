-- What a sampling family says of its kind, once for all depths.
use Rattle.std.specs.Prelude.{◌≡◌, ℕ, ◌*◌, ◌<◌}
use Rattle.theory.specs.Layouts.{Layout}

-- at one depth: so many samples to a column; the first plane has every column and row, and there are so many columns and rows to one of
-- each other plane; and the positions are the front of the widest layout's
pub record Follows (planes samples column_step row_step : ℕ) (widest l : Layout) : Type 0 where
  pub positions : l.positions ≡ samples * l.columns
  pub first : 0 < l.columns → (l.column_step 0 ≡ 1) × (l.row_step 0 ≡ 1)
  pub others : 0 < l.columns → (p : ℕ) → 0 < p → p < planes → (l.column_step p ≡ column_step) × (l.row_step p ≡ row_step)
  pub places : (k : ℕ) → k < l.positions
      → (k < widest.positions) × (l.plane k ≡ widest.plane k) × (l.row k ≡ widest.row k) × (l.column k ≡ widest.column k)

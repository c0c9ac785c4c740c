-- Group kinds. A group (a pgroup of ST 2110-20) is a few samples of neighbouring places, packed into whole octets. A kind says, for each of
-- its depths, how many octets a group has, which rows and columns it covers, and which sample stands at each of its positions.
use Rattle.std.specs.Prelude.{◌≡◌, ℕ, ◌*◌, ◌/◌, ◌%◌, ◌<◌, ◌≤◌, ◌&&◌, ◌==◌}
use Rattle.theory.specs.Octets.{first_from}

-- a kind at one of its depths
pub record Layout : Type 0 where
  pub octets : ℕ
  pub columns : ℕ
  pub positions : ℕ
  -- by plane: how many columns, and how many rows, of the part there are to one of the plane
  pub column_step : ℕ → ℕ
  pub row_step : ℕ → ℕ
  -- by position: the plane, and the row and the column of that plane inside the group
  pub plane : ℕ → ℕ
  pub row : ℕ → ℕ
  pub column : ℕ → ℕ

-- what a kind tells at a depth that it does not have
abbrev pub no_layout : Layout
no_layout = record {
  octets = 0;
  columns = 0;
  positions = 0;
  column_step = λ _. 0;
  row_step = λ _. 0;
  plane = λ _. 0;
  row = λ _. 0;
  column = λ _. 0;
}

-- planes and rows of a group are fixed once; the rest is by depth
pub record Kind : Type 0 where
  pub planes : ℕ
  pub rows : ℕ
  pub layout : ℕ → Layout

-- rows and columns of plane p inside a group
abbrev pub group_height : Kind → Layout → ℕ → ℕ
group_height k l p = k.rows / l.row_step p

abbrev pub group_width : Layout → ℕ → ℕ
group_width l p = l.columns / l.column_step p

-- the position of row d and column e of plane p; the number of positions if there is none
abbrev pub position_of : Layout → ℕ → ℕ → ℕ → ℕ
position_of l p d e = first_from 0 l.positions (λ k. (l.plane k == p) && l.row k == d && l.column k == e)

-- the laws at a depth that the kind has
pub record LayoutLaws (k : Kind) (depth : ℕ) (l : Layout) : Type 0 where
  pub depth_range : (8 ≤ depth) × (depth ≤ 16)
  pub planes_range : (1 ≤ k.planes) × (k.planes ≤ 3)
  pub rows_range : (1 ≤ k.rows) × (k.rows ≤ 2)
  pub columns_range : (1 ≤ l.columns) × (l.columns ≤ 8)
  pub positions_range : (1 ≤ l.positions) × (l.positions ≤ 24)
  pub bits : l.octets * 8 ≡ l.positions * depth
  -- steps divide columns and rows
  pub column_steps : (p : ℕ) → p < k.planes → (0 < l.column_step p) × (l.columns % l.column_step p ≡ 0)
  pub row_steps : (p : ℕ) → p < k.planes → (0 < l.row_step p) × (k.rows % l.row_step p ≡ 0)
  -- each position names a place of the group
  pub inside : (i : ℕ) → i < l.positions
      → (l.plane i < k.planes) × (l.row i < group_height k l (l.plane i)) × (l.column i < group_width l (l.plane i))
  -- each place of the group is named
  pub named : (p d e : ℕ) → p < k.planes → d < group_height k l p → e < group_width l p
      → (i : ℕ) × (i < l.positions) × (l.plane i ≡ p) × (l.row i ≡ d) × (l.column i ≡ e)
  -- and no place twice
  pub once : (i j : ℕ) → i < l.positions → j < l.positions
      → l.plane i ≡ l.plane j → l.row i ≡ l.row j → l.column i ≡ l.column j → i ≡ j

abbrev pub LawfulLayout : Kind → ℕ → Type 0
LawfulLayout k depth = LayoutLaws k depth (k.layout depth)

-- 0 for a plane, and for a position, that the kind does not have
pub record ZeroElsewhere (planes : ℕ) (l : Layout) : Type 0 where
  pub no_plane : (p : ℕ) → planes ≤ p → (l.column_step p ≡ 0) × (l.row_step p ≡ 0)
  pub no_position : (i : ℕ) → l.positions ≤ i → (l.plane i ≡ 0) × (l.row i ≡ 0) × (l.column i ≡ 0)

-- the laws of a kind; its depths are those at which a group has octets
pub record LawfulKind (k : Kind) : Type 0 where
  pub at_depth : (depth : ℕ) → 0 < (k.layout depth).octets → LawfulLayout k depth
  pub no_depth : (depth : ℕ) → (k.layout depth).octets ≡ 0 → k.layout depth ≡ no_layout
  pub elsewhere : (depth : ℕ) → ZeroElsewhere k.planes (k.layout depth)

-- The group kinds of ST 2110-20: octets and columns of a group by depth, and the order of its positions.
use Rattle.std.specs.Prelude.{ℕ, ◌+◌, ◌*◌, ◌/◌, ◌%◌, cond, List, [], ◌∷◌, ◌==◌, nat_lt, slice_index}
use Rattle.theory.specs.Layouts.{Layout, no_layout, Kind}

-- the layouts at depths 8, 10, 12 and 16
abbrev pub by_depth : Layout → Layout → Layout → Layout → ℕ → Layout
by_depth a b c e d = cond (d == 8) a (cond (d == 10) b (cond (d == 12) c (cond (d == 16) e no_layout)))

-- x for the numbers i below n, and 0 for all others
abbrev pub below : ℕ → ℕ → ℕ → ℕ
below n i x = cond (nat_lt i n) x 0

-- key: plane 0 for each column
abbrev pub key_layout : ℕ → ℕ → Layout
key_layout octets columns = record {
  octets = octets;
  columns = columns;
  positions = columns;
  column_step = λ p. below 1 p 1;
  row_step = λ p. below 1 p 1;
  plane = λ _. 0;
  row = λ _. 0;
  column = λ k. below columns k k;
}

abbrev pub key : Kind
key = record { planes = 1; rows = 1; layout = by_depth (key_layout 1 1) (key_layout 5 4) (key_layout 3 2) (key_layout 2 1) }

-- three planes, in the given order for each column
abbrev pub full_layout : List ℕ → ℕ → ℕ → Layout
full_layout order octets columns = record {
  octets = octets;
  columns = columns;
  positions = 3 * columns;
  column_step = λ p. below 3 p 1;
  row_step = λ p. below 3 p 1;
  plane = λ k. below (3 * columns) k (slice_index order (k % 3));
  row = λ _. 0;
  column = λ k. below (3 * columns) k (k / 3);
}

abbrev pub full : List ℕ → ℕ → Layout
full order = by_depth (full_layout order 3 1) (full_layout order 15 4) (full_layout order 9 2) (full_layout order 6 1)

-- YCbCr, CLYCbCr and ICtCp at 4:4:4: planes 1, 0, 2
abbrev pub ycc444 : Kind
ycc444 = record { planes = 3; rows = 1; layout = full (1 ∷ 0 ∷ 2 ∷ []) }

-- RGB: planes 0, 1, 2
abbrev pub rgb : Kind
rgb = record { planes = 3; rows = 1; layout = full (0 ∷ 1 ∷ 2 ∷ []) }

-- XYZ: as RGB, at depths 12 and 16 alone
abbrev pub xyz : Kind
xyz = record {
  planes = 3;
  rows = 1;
  layout = by_depth no_layout no_layout (full_layout (0 ∷ 1 ∷ 2 ∷ []) 9 2) (full_layout (0 ∷ 1 ∷ 2 ∷ []) 6 1);
}

-- 4:2:2: plane 1, plane 0 left, plane 2, plane 0 right; planes 1 and 2 have every second column
abbrev pub half_layout : ℕ → Layout
half_layout octets = record {
  octets = octets;
  columns = 2;
  positions = 4;
  column_step = λ p. slice_index (1 ∷ 2 ∷ 2 ∷ []) p;
  row_step = λ p. below 3 p 1;
  plane = λ k. slice_index (1 ∷ 0 ∷ 2 ∷ 0 ∷ []) k;
  row = λ _. 0;
  column = λ k. slice_index (0 ∷ 0 ∷ 0 ∷ 1 ∷ []) k;
}

-- YCbCr, CLYCbCr and ICtCp at 4:2:2
abbrev pub ycc422 : Kind
ycc422 = record { planes = 3; rows = 1; layout = by_depth (half_layout 4) (half_layout 5) (half_layout 6) (half_layout 8) }

-- 4:2:0, for each two columns: plane 0 top left, top right, bottom left, bottom right, then planes 1 and 2, which have every second column
-- and every second row
abbrev pub quarter_layout : ℕ → ℕ → Layout
quarter_layout octets columns = record {
  octets = octets;
  columns = columns;
  positions = 3 * columns;
  column_step = λ p. slice_index (1 ∷ 2 ∷ 2 ∷ []) p;
  row_step = λ p. slice_index (1 ∷ 2 ∷ 2 ∷ []) p;
  plane = λ k. below (3 * columns) k (slice_index (0 ∷ 0 ∷ 0 ∷ 0 ∷ 1 ∷ 2 ∷ []) (k % 6));
  row = λ k. below (3 * columns) k (slice_index (0 ∷ 0 ∷ 1 ∷ 1 ∷ 0 ∷ 0 ∷ []) (k % 6));
  column = λ k. below (3 * columns) k (cond (nat_lt (k % 6) 4) (2 * (k / 6)) (k / 6) + slice_index (0 ∷ 1 ∷ 0 ∷ 1 ∷ 0 ∷ 0 ∷ []) (k % 6));
}

-- YCbCr, CLYCbCr and ICtCp at 4:2:0, which has no depth 16
abbrev pub ycc420 : Kind
ycc420 = record { planes = 3; rows = 2; layout = by_depth (quarter_layout 6 2) (quarter_layout 15 4) (quarter_layout 9 2) no_layout }

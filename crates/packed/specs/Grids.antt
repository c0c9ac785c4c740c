-- What a store keeps of its frame, and the picture that it holds by that.
use Rattle.std.specs.Prelude.{◌≡◌, ℕ, zero, suc, ◌+◌, ◌-◌, ◌*◌, ◌/◌, ◌%◌, ◌^◌, ◌<◌, ◌≤◌, Bool, true, false, cond, not, ◌&&◌, List, length, replicate, ◌==◌, nat_lt, slice_get, slice_index}
use Rattle.std.specs.Option.{option_map_or}
use Rattle.std.proofs.Common.{not-suc-le-zero, pow-suc, arith, lit≤}
use Rattle.std.proofs.lemmas.Nat.{mod_below, pow_pos}
use Rattle.std.proofs.lemmas.Bool.{cond-false}
use Rattle.theory.specs.Answers.{is_none}
use Rattle.theory.specs.Octets.{AllOctets, first_from}
use Rattle.theory.specs.Layouts.{Layout, group_width, group_height}
use Rattle.theory.specs.Formats.{Format, Part, layout_of, row_groups, groups, plane_width, plane_height}
use Rattle.theory.specs.Pictures.{Picture, LawfulPicture, put_refusal}
use Rattle.packed.specs.declared.grid.Grid.{Grid}
use Rattle.packed.specs.declared.grid.PlaneSizes.{PlaneSizes}
use Rattle.packed.specs.declared.grid.Place.{Place}
use Rattle.packed.specs.BitRuns.{bit_at, run_at, bit_after}
use Rattle.packed.specs.Packs.{accepted, packed_frame, frame_beside, bit_of}
use Rattle.formats.specs.Frames.{frame_of}

-- sizes of plane p, and of its part of a group; 0 where there is no such plane
abbrev pub width_at : Grid → ℕ → ℕ
width_at g p = option_map_or (λ x. x.width) (slice_get g.planes p) 0

abbrev pub height_at : Grid → ℕ → ℕ
height_at g p = option_map_or (λ x. x.height) (slice_get g.planes p) 0

abbrev pub inner_width : Grid → ℕ → ℕ
inner_width g p = option_map_or (λ x. x.group_width) (slice_get g.planes p) 0

abbrev pub inner_height : Grid → ℕ → ℕ
inner_height g p = option_map_or (λ x. x.group_height) (slice_get g.planes p) 0

-- what position k holds, inside the group: a plane, a row and a column; 0 where there is no such position
abbrev pub plane_held : Grid → ℕ → ℕ
plane_held g k = option_map_or (λ x. x.plane) (slice_get g.places k) 0

abbrev pub row_held : Grid → ℕ → ℕ
row_held g k = option_map_or (λ x. x.row) (slice_get g.places k) 0

abbrev pub column_held : Grid → ℕ → ℕ
column_held g k = option_map_or (λ x. x.column) (slice_get g.places k) 0

-- position k holds row d and column e of plane p
abbrev pub holds : Grid → ℕ → ℕ → ℕ → ℕ → Bool
holds g p d e k = plane_held g k == p && row_held g k == d && column_held g k == e

abbrev pub position_at : Grid → ℕ → ℕ → ℕ → ℕ
position_at g p d e = first_from 0 g.positions (holds g p d e)

-- the first bit of a place
abbrev pub first_bit : Grid → ℕ → ℕ → ℕ → ℕ
first_bit g p r c =
    ((r / inner_height g p) * g.row_groups + c / inner_width g p) * (g.octets * 8)
    + position_at g p (r % inner_height g p) (c % inner_width g p) * g.depth

-- the picture: each sample is the number that the bits from there on stand for
abbrev pub grid_picture : Grid → List ℕ → Picture
grid_picture g m = record {
  planes = g.plane_count;
  width = width_at g;
  height = height_at g;
  depth = g.depth;
  sample = λ p r c. cond (nat_lt r (height_at g p) && nat_lt c (width_at g p)) (run_at m (first_bit g p r c) g.depth) 0;
}

-- the place that bit k is for
abbrev bit_position : Grid → ℕ → ℕ
bit_position g k = k % (g.octets * 8) / g.depth

abbrev pub bit_plane : Grid → ℕ → ℕ
bit_plane g k = plane_held g (bit_position g k)

abbrev pub bit_row : Grid → ℕ → ℕ
bit_row g k = (k / (g.octets * 8)) / g.row_groups * inner_height g (bit_plane g k) + row_held g (bit_position g k)

abbrev pub bit_column : Grid → ℕ → ℕ
bit_column g k = (k / (g.octets * 8)) % g.row_groups * inner_width g (bit_plane g k) + column_held g (bit_position g k)

-- bit k, where it is no sample's; 0 where it is a sample's
abbrev pub grid_beside : Grid → List ℕ → ℕ → ℕ
grid_beside g m k =
    cond (not (nat_lt (bit_row g k) (height_at g (bit_plane g k)) && nat_lt (bit_column g k) (width_at g (bit_plane g k)))) (bit_at m k) 0

-- what no put changes: whose memory it is, how it is laid out, and the bits that are no sample's
abbrev pub Unchanged : Type 0
Unchanged = ℕ × Grid × (ℕ → ℕ)

abbrev pub unchanged : ℕ → Grid → List ℕ → Unchanged
unchanged memory g m = (memory, g, grid_beside g m)

-- a plane of no size, and the grid of a store that could not be made
abbrev pub no_sizes : PlaneSizes
no_sizes = record { width = 0; height = 0; group_width = 0; group_height = 0; covered = λ h. absurd (not-suc-le-zero h) }

abbrev pub empty_grid : Grid
empty_grid = record {
  plane_count = 0;
  depth = 1;
  planes = replicate 3 no_sizes;
  row_groups = 0;
  octets = 0;
  positions = 0;
  places = replicate 24 (record { plane = 0; row = 0; column = 0 });
  size = 0;
  deep = lit≤ tt;
  narrow = lit≤ tt;
  few = lit≤ tt;
}

-- these are the sizes of plane p of a part, and of its part of a group
pub record SizesOf (x : PlaneSizes) (t : Part) (p : ℕ) : Type 0 where
  pub width : x.width ≡ plane_width t p
  pub height : x.height ≡ plane_height t p
  pub group_width : x.group_width ≡ group_width (layout_of t.format) p
  pub group_height : x.group_height ≡ group_height t.format.kind (layout_of t.format) p

-- this is the place of position k of a layout
pub record PlaceOf (x : Place) (l : Layout) (k : ℕ) : Type 0 where
  pub plane : x.plane ≡ l.plane k
  pub row : x.row ≡ l.row k
  pub column : x.column ≡ l.column k

-- the grid holds a layout's positions
pub record PlacesOf (g : Grid) (l : Layout) : Type 0 where
  pub plane : (k : ℕ) → plane_held g k ≡ l.plane k
  pub row : (k : ℕ) → row_held g k ≡ l.row k
  pub column : (k : ℕ) → column_held g k ≡ l.column k

-- the grid is that of a part
pub record Copies (g : Grid) (t : Part) : Type 0 where
  pub planes : g.plane_count ≡ t.format.kind.planes
  pub depth : g.depth ≡ t.format.depth
  pub octets : g.octets ≡ (layout_of t.format).octets
  pub positions : g.positions ≡ (layout_of t.format).positions
  pub across : g.row_groups ≡ row_groups t.format
  pub size : g.size ≡ groups t * (layout_of t.format).octets
  pub widths : (p : ℕ) → width_at g p ≡ plane_width t p
  pub heights : (p : ℕ) → height_at g p ≡ plane_height t p
  pub inner_widths : (p : ℕ) → inner_width g p ≡ group_width (layout_of t.format) p
  pub inner_heights : (p : ℕ) → inner_height g p ≡ group_height t.format.kind (layout_of t.format) p
  pub places : PlacesOf g (layout_of t.format)

-- each sample's bits lie in the frame's octets
abbrev pub Within : Grid → Type 0
Within g = (p r c : ℕ) → (r < height_at g p) × (c < width_at g p) → first_bit g p r c + g.depth ≤ 8 * g.size

-- bit k is one of the sample at a place
abbrev pub InRun : Grid → ℕ → ℕ → ℕ → ℕ → Type 0
InRun g p r c k =
    (r < height_at g p) × (c < width_at g p) × (first_bit g p r c ≤ k) × (k < first_bit g p r c + g.depth)

-- bit k is for this place
abbrev pub is_for : Grid → ℕ → ℕ → ℕ → ℕ → Bool
is_for g p r c k = bit_plane g k == p && bit_row g k == r && bit_column g k == c

-- each bit of the sample at a place (plane, row and column) is for that place
abbrev pub Owned : Grid → Type 0
Owned g = (x : ℕ × ℕ × ℕ) (k : ℕ) → InRun g x.0 x.1 x.2 k → is_for g x.0 x.1 x.2 k ≡ true

-- there is nothing behind the planes
abbrev pub NoneBehind : Grid → Type 0
NoneBehind g = (p : ℕ) → g.plane_count ≤ p → width_at g p + height_at g p ≡ 0

-- what the grid of every store over so many octets has
pub record Sound (g : Grid) (room : ℕ) : Type 0 where
  pub none : NoneBehind g
  pub within : Within g
  pub owned : Owned g
  pub long : g.size ≤ room

-- what is promised of the grid of a store of a format over so many octets, whatever they hold
pub record Made (f : Format) (room : ℕ) (g : Grid) : Type 0 where
  pub sound : Sound g room
  pub picture : (m : List ℕ) → length m ≡ room → AllOctets m → grid_picture g m ≡ packed_frame f m
  pub beside : (m : List ℕ) → length m ≡ room → grid_beside g m ≡ frame_beside f m
  pub first : accepted f room ≡ true → (p r c : ℕ) → first_bit g p r c ≡ bit_of (frame_of f) p r c

-- bit k after a put, taken or refused
abbrev pub bit_left : Grid → List ℕ → ℕ → ℕ → ℕ → ℕ → ℕ → ℕ
bit_left g m p r c x k =
    cond (is_none (put_refusal (grid_picture g m) p r c x)) (bit_after m (first_bit g p r c) g.depth x k) (bit_at m k)

-- a picture of runs of bits is lawful
run_below : (m : List ℕ) (b n : ℕ) → run_at m b n < 2 ^ n
run_below m b zero = omega arith
run_below m b (suc n) =
    omega (arith, run_below m b n, mod_below (slice_index m ((b + n) / 8) / 2 ^ (7 - (b + n) % 8)) 2 (omega arith), pow-suc 2 n)

below_when : (b : Bool) (x n : ℕ) → 0 < n → x < n → cond b x 0 < n
below_when true x n z h = h
below_when false x n z h = z

pub grid_lawful : (g : Grid) (m : List ℕ) → NoneBehind g → LawfulPicture (grid_picture g m)
grid_lawful g m none = record {
  depth_range = (g.deep, g.narrow);
  no_width = λ p h. omega (arith, none p h);
  no_height = λ p h. omega (arith, none p h);
  below = λ p r c. below_when (nat_lt r (height_at g p) && nat_lt c (width_at g p)) (run_at m (first_bit g p r c) g.depth) (2 ^ g.depth)
      (pow_pos g.depth) (run_below m (first_bit g p r c) g.depth);
  outside = λ p r c. cond-false (nat_lt r (height_at g p) && nat_lt c (width_at g p)) (run_at m (first_bit g p r c) g.depth) 0;
}

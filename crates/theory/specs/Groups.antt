-- Groups. The samples of a group stand one after another, the first in the highest bits, `depth` bits each and without gaps. So a group is
-- one number: its samples are its digits of `depth` bits, its octets are its digits of 8 bits.
use Rattle.std.specs.Prelude.{◌≡◌, ℕ, ◌+◌, ◌*◌, ◌/◌, ◌%◌, ◌^◌, ◌<◌, Bool, cond, not, ◌&&◌, List, map, length, nat_lt, slice_index}
use Rattle.std.specs.List.{range_with_len}
use Rattle.std.specs.Int.Digits.{number_from_digits, AllBelowBase}
use Rattle.theory.specs.Octets.{digit, digits}
use Rattle.theory.specs.Layouts.{Layout, group_height, group_width, position_of}
use Rattle.theory.specs.Formats.{Part, layout_of, row_groups, plane_width, plane_height}
use Rattle.theory.specs.Pictures.{Picture, inside, with_samples}

-- a group built: the octets of these samples
abbrev pub octets_of_samples : Layout → ℕ → List ℕ → List ℕ
octets_of_samples l depth xs = digits 8 l.octets (number_from_digits (2 ^ depth) xs)

-- a group taken apart: the sample at position k of these octets, and all of them
abbrev pub value_at : Layout → ℕ → List ℕ → ℕ → ℕ
value_at l depth os k = digit depth l.positions (number_from_digits 256 os) k

abbrev pub samples_of_octets : Layout → ℕ → List ℕ → List ℕ
samples_of_octets l depth os = digits depth l.positions (number_from_digits 256 os)

-- each way round gives back what was put in
pub record RoundTrip (l : Layout) (depth : ℕ) : Type 0 where
  -- samples below 2 ^ depth, built into octets, are there at their positions
  pub samples_back : (xs : List ℕ) → length xs ≡ l.positions → AllBelowBase (2 ^ depth) xs
      → (k : ℕ) → k < l.positions → value_at l depth (octets_of_samples l depth xs) k ≡ slice_index xs k
  -- octets, taken apart and built again, are those octets
  pub octets_back : (os : List ℕ) → length os ≡ l.octets → AllBelowBase 256 os
      → octets_of_samples l depth (samples_of_octets l depth os) ≡ os
  -- what is built has the right number of octets, and what is taken apart the right number of samples, of the right size
  pub octets_built : (xs : List ℕ) → (length (octets_of_samples l depth xs) ≡ l.octets) × AllBelowBase 256 (octets_of_samples l depth xs)
  pub samples_apart : (os : List ℕ)
      → (length (samples_of_octets l depth os) ≡ l.positions) × AllBelowBase (2 ^ depth) (samples_of_octets l depth os)

-- where position k of group g lies: the row and the column in its plane
abbrev pub place_row : Part → ℕ → ℕ → ℕ
place_row t g k =
    let l = layout_of t.format in
    (g / row_groups t.format) * group_height t.format.kind l (l.plane k) + l.row k

abbrev pub place_column : Part → ℕ → ℕ → ℕ
place_column t g k =
    let l = layout_of t.format in
    (g % row_groups t.format) * group_width l (l.plane k) + l.column k

-- position k of group g is fill: it lies outside its plane
abbrev pub is_fill : Part → ℕ → ℕ → Bool
is_fill t g k =
    let p = (layout_of t.format).plane k in
    not (nat_lt (place_row t g k) (plane_height t p) && nat_lt (place_column t g k) (plane_width t p))

-- the group that holds a place, and the position of the place there
abbrev pub group_of : Part → ℕ → ℕ → ℕ → ℕ
group_of t p r c =
    let l = layout_of t.format in
    (r / group_height t.format.kind l p) * row_groups t.format + c / group_width l p

abbrev pub position_in_group : Part → ℕ → ℕ → ℕ → ℕ
position_in_group t p r c =
    let l = layout_of t.format in
    position_of l p (r % group_height t.format.kind l p) (c % group_width l p)

-- the picture with the value f at each place inside whose group and position are chosen by w
abbrev pub filled : Part → Picture → (ℕ → ℕ → Bool) → (ℕ → ℕ → ℕ) → Picture
filled t v w f =
    with_samples v (λ p r c.
    let g = group_of t p r c in
    let k = position_in_group t p r c in
    cond (inside v p r c && w g k) (f g k) (v.sample p r c))

-- the sample of a picture at position k of group g; fill is 0, as a picture is at every place outside
abbrev pub sample_at : Part → Picture → ℕ → ℕ → ℕ
sample_at t v g k = v.sample ((layout_of t.format).plane k) (place_row t g k) (place_column t g k)

-- the samples and the octets of group g of a picture
abbrev pub group_samples : Part → Picture → ℕ → List ℕ
group_samples t v g = map (sample_at t v g) (range_with_len 0 (layout_of t.format).positions)

abbrev pub group_octets : Part → Picture → ℕ → List ℕ
group_octets t v g = octets_of_samples (layout_of t.format) t.format.depth (group_samples t v g)

-- Pictures, as a store shows them: sizes, a depth, and one number at each plane, row and column inside; and what showing and putting answer
-- and leave.
use Rattle.std.specs.Prelude.{◌≡◌, ℕ, ◌+◌, ◌-◌, ◌*◌, ◌/◌, ◌^◌, ◌<◌, ◌≤◌, Bool, false, cond, not, ◌&&◌, ltb, List, [], ◌∷◌, map, length, Option, Result, ◌==◌, nat_le, nat_lt, slice_index}
use Rattle.std.specs.List.{range_with_len}
use Rattle.theory.specs.Octets.{all_below}
use Rattle.theory.specs.Answers.{first_row, is_none, Answer, answer, verdict}
use Rattle.theory.specs.Formats.{Part, plane_width, plane_height}

-- `width` and `height` are by plane, `sample` by plane, row and column
pub record Picture : Type 0 where
  pub planes : ℕ
  pub width : ℕ → ℕ
  pub height : ℕ → ℕ
  pub depth : ℕ
  pub sample : ℕ → ℕ → ℕ → ℕ

-- the plane has this row and this column
abbrev pub inside : Picture → ℕ → ℕ → ℕ → Bool
inside v p r c = nat_lt r (v.height p) && nat_lt c (v.width p)

-- what every store keeps: a depth of 1 to 16, size 0 of every other plane, samples below 2 ^ depth, and 0 at every place outside
pub record LawfulPicture (v : Picture) : Type 0 where
  pub depth_range : (1 ≤ v.depth) × (v.depth ≤ 16)
  pub no_width : (p : ℕ) → v.planes ≤ p → v.width p ≡ 0
  pub no_height : (p : ℕ) → v.planes ≤ p → v.height p ≡ 0
  pub below : (p r c : ℕ) → v.sample p r c < 2 ^ v.depth
  pub outside : (p r c : ℕ) → inside v p r c ≡ false → v.sample p r c ≡ 0

-- the sizes and the depth of one picture are those of another
pub record SameSizes (v u : Picture) : Type 0 where
  pub planes : v.planes ≡ u.planes
  pub width : (p : ℕ) → v.width p ≡ u.width p
  pub height : (p : ℕ) → v.height p ≡ u.height p
  pub depth : v.depth ≡ u.depth

-- the sizes and the depth of this picture, with these samples
abbrev pub with_samples : Picture → (ℕ → ℕ → ℕ → ℕ) → Picture
with_samples v f = record { planes = v.planes; width = v.width; height = v.height; depth = v.depth; sample = f }

-- the picture with x at one place, and all else as it was
abbrev pub put : Picture → ℕ → ℕ → ℕ → ℕ → Picture
put v p r c x = with_samples v (λ q s d. cond (q == p && s == r && d == c) x (v.sample q s d))

-- what a store answers that is to show a sample: the sample, or 1 where there is no such plane, row or column
abbrev pub show_answer : Picture → ℕ → ℕ → ℕ → Answer
show_answer v p r c = answer (first_row ((not (inside v p r c), 1) ∷ [])) (v.sample p r c)

-- why a put is refused, what it answers, and the picture that it leaves
abbrev pub put_refusal : Picture → ℕ → ℕ → ℕ → ℕ → Option ℕ
put_refusal v p r c x = first_row ((not (inside v p r c), 1) ∷ (nat_le (2 ^ v.depth) x, 2) ∷ [])

abbrev pub put_answer : Picture → ℕ → ℕ → ℕ → ℕ → Result (Unit {0}) ℕ
put_answer v p r c x = verdict (put_refusal v p r c x)

abbrev pub put_after : Picture → ℕ → ℕ → ℕ → ℕ → Picture
put_after v p r c x = cond (is_none (put_refusal v p r c x)) (put v p r c x) v

-- the plane has this row, and n columns of it from column c on
abbrev pub columns_inside : Picture → ℕ → ℕ → ℕ → ℕ → Bool
columns_inside v p r c n = nat_lt r (v.height p) && nat_le (c + n) (v.width p)

-- what a store answers that is to show samples of a row, from column c on, one for each word of some memory; and the memory then
abbrev pub show_row_answer : Picture → ℕ → ℕ → ℕ → ℕ → Result (Unit {0}) ℕ
show_row_answer v p r c n = verdict (first_row ((not (columns_inside v p r c n), 1) ∷ []))

abbrev pub show_row_after : Picture → ℕ → ℕ → ℕ → List ℕ → List ℕ
show_row_after v p r c xs =
    cond (columns_inside v p r c (length xs)) (map (λ i. v.sample p r (c + i)) (range_with_len 0 (length xs))) xs

-- the picture with these values in a row, from column c on, and all else as it was
abbrev pub put_row : Picture → ℕ → ℕ → ℕ → List ℕ → Picture
put_row v p r c xs =
    with_samples v (λ q s d.
    cond (q == p && s == r && nat_le c d && nat_lt d (c + length xs)) (slice_index xs (d - c)) (v.sample q s d))

-- why putting a row is refused, as a whole, what it answers, and the picture that it leaves
abbrev pub put_row_refusal : Picture → ℕ → ℕ → ℕ → List ℕ → Option ℕ
put_row_refusal v p r c xs =
    first_row
    ((not (columns_inside v p r c (length xs)), 1)
    ∷ (not (all_below (length xs) (λ i. ltb (slice_index xs i) (2 ^ v.depth))), 2)
    ∷ [])

abbrev pub put_row_answer : Picture → ℕ → ℕ → ℕ → List ℕ → Result (Unit {0}) ℕ
put_row_answer v p r c xs = verdict (put_row_refusal v p r c xs)

abbrev pub put_row_after : Picture → ℕ → ℕ → ℕ → List ℕ → Picture
put_row_after v p r c xs = cond (is_none (put_row_refusal v p r c xs)) (put_row v p r c xs) v

-- the number of planes, their sizes and the depth are those of the part
abbrev pub fits_part : Picture → Part → Bool
fits_part v t =
    (v.planes == t.format.kind.planes)
    && all_below 3 (λ p. (v.width p == plane_width t p) && v.height p == plane_height t p)
    && v.depth == t.format.depth

-- the picture of a store that could not be made: no planes, depth 1
abbrev pub no_picture : Picture
no_picture = record { planes = 0; width = λ _. 0; height = λ _. 0; depth = 1; sample = λ _ _ _. 0 }

-- field f of a frame: row r is row 2r + f of the frame
abbrev pub field_of : Picture → ℕ → Picture
field_of v f = record {
  planes = v.planes;
  width = v.width;
  height = λ p. (v.height p + 1 - f) / 2;
  depth = v.depth;
  sample = λ p r c. v.sample p (2 * r + f) c;
}

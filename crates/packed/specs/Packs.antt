-- A frame kept in octets as it stands on the wire: group after group, unit row after unit row, without gaps, fill included.
use Rattle.std.specs.Prelude.{ℕ, ◌+◌, ◌*◌, ◌/◌, ◌%◌, ◌<◌, Bool, cond, not, ◌&&◌, List, [], ◌∷◌, length, take, drop, Option, Result, nat_lt}
use Rattle.theory.specs.Answers.{first_row, is_none, verdict}
use Rattle.theory.specs.Formats.{Format, Part, layout_of, lawful_format, plane_width, plane_height}
use Rattle.theory.specs.Groups.{value_at, group_of, position_in_group, is_fill}
use Rattle.theory.specs.Pictures.{Picture, no_picture}
use Rattle.formats.specs.Frames.{frame_of, packed_octets}
use Rattle.packed.specs.BitRuns.{bit_at}

-- the octets of group g
abbrev pub kept_group : Part → List ℕ → ℕ → List ℕ
kept_group t m g = let o = (layout_of t.format).octets in take o (drop (g * o) m)

-- the picture that octets hold: each sample is the one that its group, taken apart, has at its position
abbrev pub packed_picture : Part → List ℕ → Picture
packed_picture t m = record {
  planes = t.format.kind.planes;
  width = plane_width t;
  height = plane_height t;
  depth = t.format.depth;
  sample = λ p r c.
      cond (nat_lt r (plane_height t p) && nat_lt c (plane_width t p))
      (value_at (layout_of t.format) t.format.depth (kept_group t m (group_of t p r c)) (position_in_group t p r c)) 0;
}

-- the first bit of a place's sample: behind the groups in front of its group, and the positions in front of its position
abbrev pub bit_of : Part → ℕ → ℕ → ℕ → ℕ
bit_of t p r c = group_of t p r c * ((layout_of t.format).octets * 8) + position_in_group t p r c * t.format.depth

-- bit k, where it is no sample's: fill, or behind the frame; 0 where it is a sample's
abbrev pub bit_beside : Part → List ℕ → ℕ → ℕ
bit_beside t m k =
    let bits = (layout_of t.format).octets * 8 in
    cond (is_fill t (k / bits) (k % bits / t.format.depth)) (bit_at m k) 0

-- a plane that has h rows has some rows and columns in a group, d and e
abbrev pub Covered : ℕ → ℕ → ℕ → Type 0
Covered h d e = 0 < h → 0 < d * e

-- why a store over so many octets is refused
abbrev pub packed_refusal : Format → ℕ → Option ℕ
packed_refusal f n = first_row ((not (lawful_format f), 4) ∷ (nat_lt n (packed_octets f), 3) ∷ [])

-- what the check answers, and whether it finds nothing
abbrev pub packed_check : Format → ℕ → Result (Unit {0}) ℕ
packed_check f n = verdict (packed_refusal f n)

abbrev pub accepted : Format → ℕ → Bool
accepted f n = is_none (packed_refusal f n)

-- the picture of a store of the format over these octets, and their bits that are no sample's: where the check refuses, it has no sample
abbrev pub packed_frame : Format → List ℕ → Picture
packed_frame f m = cond (accepted f (length m)) (packed_picture (frame_of f) m) no_picture

abbrev pub frame_beside : Format → List ℕ → ℕ → ℕ
frame_beside f m k = cond (accepted f (length m)) (bit_beside (frame_of f) m k) (bit_at m k)

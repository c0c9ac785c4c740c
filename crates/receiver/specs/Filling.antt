-- Which groups a segment and a packet set, and the values that they have for them.
use Rattle.std.specs.Prelude.{◌≡◌, ℕ, ◌+◌, ◌-◌, ◌*◌, ◌≤◌, Bool, not, ◌&&◌, List, length, take, drop, nat_eq, nat_le, nat_lt}
use Rattle.packets.specs.Reading.{Placed}
use Rattle.theory.specs.Octets.{any_below, bit, count_below, marked}
use Rattle.theory.specs.Formats.{Part, layout_of, row_groups, groups}
use Rattle.theory.specs.Pictures.{Picture}
use Rattle.theory.specs.Groups.{filled, value_at}
use Rattle.theory.specs.Taking.{octets_of, segment_names}

-- the number of the group that is `at` in unit row u
abbrev pub group_at : Part → ℕ → ℕ → ℕ
group_at t u at = u * row_groups t.format + at

-- the number of a segment's first group
abbrev pub start_of : Part → Placed → ℕ
start_of t x = group_at t x.unit_row x.first_group

-- a segment has whole groups, which lie in one unit row and in the part
pub record InPart (t : Part) (x : Placed) : Type 0 where
  pub whole : length x.octets ≡ x.groups * (layout_of t.format).octets
  pub row : x.unit_row ≤ 65535
  pub in_row : x.first_group + x.groups ≤ row_groups t.format
  pub in_part : start_of t x + x.groups ≤ groups t

-- the value at position k of one group's octets
abbrev pub group_value : Part → List ℕ → ℕ → ℕ → ℕ
group_value t os _ k = value_at (layout_of t.format) t.format.depth os k

-- the picture with the samples that group n has in these octets
abbrev pub with_group : Part → Picture → ℕ → List ℕ → Picture
with_group t v n os = filled t v (λ g _. nat_eq g n) (group_value t os)

-- of the groups w, those whose bit is clear
abbrev pub clear_of : List ℕ → (ℕ → Bool) → ℕ → Bool
clear_of m w g = w g && not (bit m g)

-- picture, map and count after the groups w were put, with the samples f, where their bits were clear
pub record GroupsPut (t : Part) (v : Picture) (m : List ℕ) (w : ℕ → Bool) (f : ℕ → ℕ → ℕ) (now : Picture) (map : List ℕ) (count : ℕ) : Type 0 where
  pub picture : now ≡ filled t v (λ g _. clear_of m w g) f
  pub bits : map ≡ marked m w
  pub number : count ≡ count_below (groups t) (clear_of m w)

-- n groups from s on
abbrev pub run : ℕ → ℕ → ℕ → Bool
run s n g = nat_le s g && nat_lt g (s + n)

-- the value at position k of group g, from the octets of the groups from s on
abbrev pub run_value : Part → List ℕ → ℕ → ℕ → ℕ → ℕ
run_value t os s g k = let o = (layout_of t.format).octets in group_value t (take o (drop ((g - s) * o) os)) g k

-- the same of the groups of a segment, with the samples that they have in its octets
abbrev pub SegmentPut : Part → Picture → List ℕ → Placed → Picture → List ℕ → ℕ → Type 0
SegmentPut t v m x now map count =
    let s = start_of t x in GroupsPut t v m (run s x.groups) (run_value t x.octets s) now map count

-- one of the first n segments of a packet names the group
abbrev pub named : Part → List ℕ → ℕ → ℕ → Bool
named t q n g = any_below n (λ i. segment_names t q i g)

-- the value that a packet has for position k of group g
abbrev pub packet_value : Part → List ℕ → ℕ → ℕ → ℕ
packet_value t q g k = group_value t (octets_of t q g) g k

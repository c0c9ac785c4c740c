-- What a packet names that no row of the table refuses: groups of the part only, each at most once, and all their octets lie in the packet.
use Rattle.std.specs.Prelude.{◌≡◌, ℕ, ◌+◌, ◌-◌, ◌*◌, ◌<◌, ◌≤◌, true, List, length}
use Rattle.theory.specs.Formats.{Part, layout_of, row_groups, groups}
use Rattle.theory.specs.Packets.{headers, payload_end, data_start, lengths, srd_length, first_group, segment_groups}
use Rattle.theory.specs.Taking.{segment_start, segment_names, names, octets_of}

pub record SoundNaming (t : Part) (q : List ℕ) : Type 0 where
  -- the segments lie in the packet, before its padding, and each is a whole number of groups
  pub segments_inside : data_start q + lengths q (headers q) ≤ payload_end q
  pub segment_inside : (i : ℕ) → i < headers q → data_start q + lengths q i + srd_length q i ≤ payload_end q
  pub whole_segments : (i : ℕ) → i < headers q → segment_groups t q i * (layout_of t.format).octets ≡ srd_length q i
  -- each segment lies in its unit row, and in the part
  pub in_row : (i : ℕ) → i < headers q → first_group t q i + segment_groups t q i ≤ row_groups t.format
  pub in_part : (i : ℕ) → i < headers q → segment_start t q i + segment_groups t q i ≤ groups t
  -- a group that is named is a group of the part, is in one segment alone, and has all its octets in the packet, before its padding
  pub names_inside : (g : ℕ) → names t q g ≡ true → g < groups t
  pub names_once : (i j g : ℕ) → i < headers q → j < headers q → segment_names t q i g ≡ true → segment_names t q j g ≡ true → i ≡ j
  pub whole_groups : (g : ℕ) → names t q g ≡ true → length (octets_of t q g) ≡ (layout_of t.format).octets
  pub octets_inside : (i g : ℕ) → i < headers q → segment_names t q i g ≡ true
      → data_start q + lengths q i + (g - segment_start t q i + 1) * (layout_of t.format).octets ≤ payload_end q

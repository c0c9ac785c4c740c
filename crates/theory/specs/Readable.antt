-- What a taken packet gives: all that is read of it lies in it, and what it names lies in the part and in the map.
use Rattle.std.specs.Prelude.{◌≡◌, ℕ, ◌+◌, ◌*◌, ◌<◌, ◌≤◌, true, List, length}
use Rattle.theory.specs.Formats.{Part, layout_of, row_groups, groups, lawful_format}
use Rattle.theory.specs.Pictures.{Picture, fits_part}
use Rattle.theory.specs.Packets.{headers, payload_start, payload_end, data_start, lengths, first_group, segment_groups}
use Rattle.theory.specs.Taking.{segment_start, names, octets_of}

pub record Readable (t : Part) (v : Picture) (m q : List ℕ) : Type 0 where
  -- the format is inside the limits, the store fits the part, and the map has a bit for each group
  pub allowed : lawful_format t.format ≡ true
  pub fits : fits_part v t ≡ true
  pub mapped : groups t ≤ 8 * length m
  -- payload, headers and segments lie in the packet, before its padding
  pub payload_inside : payload_start q ≤ payload_end q
  pub headers_inside : data_start q ≤ payload_end q
  pub segments_inside : data_start q + lengths q (headers q) ≤ payload_end q
  -- each segment lies in its unit row, and in the part
  pub in_row : (i : ℕ) → i < headers q → first_group t q i + segment_groups t q i ≤ row_groups t.format
  pub in_part : (i : ℕ) → i < headers q → segment_start t q i + segment_groups t q i ≤ groups t
  -- each group that the packet names is a group of the part, and has all its octets
  pub names_inside : (g : ℕ) → names t q g ≡ true → g < groups t
  pub whole_groups : (g : ℕ) → names t q g ≡ true → length (octets_of t q g) ≡ (layout_of t.format).octets

-- The rules that each sample row data header keeps, one header at a time. Assumes nothing.
use Rattle.std.specs.Prelude.{ℕ, ◌+◌, ◌%◌, Bool, not, ◌&&◌, ◌||◌, List, ◌==◌, nat_le, nat_lt}
use Rattle.theory.specs.Formats.{Part, layout_of, row_groups, rows}
use Rattle.theory.specs.Packets.{headers, srd_length, srd_field, srd_row, srd_offset, first_group, segment_groups}

-- the length of header i is no multiple of the group's octets, or 0 beside another header
abbrev pub length_breaks : Part → List ℕ → ℕ → Bool
length_breaks t q i = not (srd_length q i % (layout_of t.format).octets == 0) || (nat_lt 1 (headers q) && srd_length q i == 0)

-- header i is of another field, or its row is beyond the part or no multiple of the group's rows
abbrev pub row_breaks : Part → List ℕ → ℕ → Bool
row_breaks t q i =
    not (srd_field q i == t.field) || nat_le (rows t) (srd_row q i) || not (srd_row q i % t.format.kind.rows == 0)

-- the group behind the last one of segment i
abbrev pub end_group : Part → List ℕ → ℕ → ℕ
end_group t q i = first_group t q i + segment_groups t q i

-- the offset of header i is no multiple of the group's columns or not below the width, or its segment passes the row's last group
abbrev pub offset_breaks : Part → List ℕ → ℕ → Bool
offset_breaks t q i =
    not (srd_offset q i % (layout_of t.format).columns == 0)
    || nat_le t.format.width (srd_offset q i)
    || nat_lt (row_groups t.format) (end_group t q i)

-- the header behind header i is on a smaller row, or on the same row before the end of segment i
abbrev pub turn_breaks : Part → List ℕ → ℕ → Bool
turn_breaks t q i =
    nat_lt (srd_row q (i + 1)) (srd_row q i)
    || (srd_row q (i + 1) == srd_row q i && nat_lt (first_group t q (i + 1)) (end_group t q i))

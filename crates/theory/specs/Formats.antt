-- Formats and parts: their limits, their rows, unit rows and groups, and the sizes of their planes.
use Rattle.std.specs.Prelude.{◌≡◌, ℕ, ◌+◌, ◌-◌, ◌*◌, ◌/◌, ◌%◌, ◌^◌, ◌<◌, Bool, true, cond, ◌&&◌, ◌||◌, ◌==◌, nat_le, nat_lt}
use Rattle.theory.specs.Octets.{ceil_div}
use Rattle.theory.specs.Layouts.{Layout, Kind, LawfulKind}

pub record Format : Type 0 where
  pub kind : Kind
  pub depth : ℕ
  pub width : ℕ
  pub height : ℕ
  -- 0 progressive, 1 interlaced, 2 PsF (progressive segmented frame)
  pub scan : ℕ
  -- 1 general, 2 block
  pub mode : ℕ
  pub payload_type : ℕ
  pub ssrc : ℕ

-- the layout of the format's groups
abbrev pub layout_of : Format → Layout
layout_of f = f.kind.layout f.depth

-- the groups of one unit row, a unit row being one row of groups
abbrev pub row_groups : Format → ℕ
row_groups f = ceil_div f.width (layout_of f).columns

abbrev within : ℕ → ℕ → ℕ → Bool
within low high n = nat_le low n && nat_le n high

-- interlaced and PsF want two rows at least, and a kind whose groups have one row
abbrev pub scan_allowed : Format → Bool
scan_allowed f = f.scan == 0 || (nat_le f.scan 2 && nat_le 2 f.height && f.kind.rows == 1)

-- block mode wants group octets that divide 180, and a unit row of 630 octets or more
abbrev pub mode_allowed : Format → Bool
mode_allowed f =
    (f.mode == 1)
    || (f.mode == 2 && 180 % (layout_of f).octets == 0 && nat_le 630 (row_groups f * (layout_of f).octets))

-- the format is inside the limits; its depth is one of the kind's, where a group has octets
abbrev pub lawful_format : Format → Bool
lawful_format f =
    nat_lt 0 (layout_of f).octets
    && within 1 32767 f.width
    && within 1 32767 f.height
    && within 96 127 f.payload_type
    && scan_allowed f
    && mode_allowed f

-- one progressive frame (field 0), one field or one PsF segment (field 0 or 1), with its RTP timestamp
pub record Part : Type 0 where
  pub format : Format
  pub timestamp : ℕ
  pub field : ℕ

-- the format has such a field
abbrev pub lawful_field : Format → ℕ → Bool
lawful_field f n = nat_le n (cond (f.scan == 0) 0 1)

-- what every part that was opened meets: its kind has the laws, format and field were tested, timestamp and SSRC are 32-bit numbers
pub record LawfulPart (t : Part) : Type 0 where
  pub lawful_kind : LawfulKind t.format.kind
  pub format_allowed : lawful_format t.format ≡ true
  pub field_allowed : lawful_field t.format t.field ≡ true
  pub timestamp_fits : t.timestamp < 2 ^ 32
  pub ssrc_fits : t.format.ssrc < 2 ^ 32

-- the rows of the part: all, or every second from row 0 or row 1 on
abbrev pub rows : Part → ℕ
rows t = cond (t.format.scan == 0) t.format.height ((t.format.height + 1 - t.field) / 2)

abbrev pub unit_rows : Part → ℕ
unit_rows t = ceil_div (rows t) t.format.kind.rows

-- the groups of the part, numbered across, then down
abbrev pub groups : Part → ℕ
groups t = unit_rows t * row_groups t.format

-- the octets of the arrival map that the part needs: one bit a group
abbrev pub map_octets : Part → ℕ
map_octets t = ceil_div (groups t) 8

-- the sizes of plane p: width and rows divided by the plane's steps, rounded up; 0 of any other plane
abbrev pub plane_width : Part → ℕ → ℕ
plane_width t p = cond (nat_lt p t.format.kind.planes) (ceil_div t.format.width ((layout_of t.format).column_step p)) 0

abbrev pub plane_height : Part → ℕ → ℕ
plane_height t p = cond (nat_lt p t.format.kind.planes) (ceil_div (rows t) ((layout_of t.format).row_step p)) 0

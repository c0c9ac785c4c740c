-- The whole frame of a format, and the memory that it takes. Assumes nothing.
use Rattle.std.specs.Prelude.{ℕ, ◌+◌, ◌*◌}
use Rattle.theory.specs.Formats.{Format, Part, layout_of, groups, plane_width, plane_height}

-- the frame is a part of all rows, whatever the scan
abbrev pub frame_of : Format → Part
frame_of f = record {
  format = record {
    kind = f.kind;
    depth = f.depth;
    width = f.width;
    height = f.height;
    scan = 0;
    mode = f.mode;
    payload_type = f.payload_type;
    ssrc = f.ssrc;
  };
  timestamp = 0;
  field = 0;
}

abbrev pub plane_area : Part → ℕ → ℕ
plane_area t p = plane_width t p * plane_height t p

-- one word for each sample of planes 0, 1 and 2
abbrev pub planar_words : Format → ℕ
planar_words f = plane_area (frame_of f) 0 + plane_area (frame_of f) 1 + plane_area (frame_of f) 2

-- the octets of all groups
abbrev pub packed_octets : Format → ℕ
packed_octets f = groups (frame_of f) * (layout_of f).octets

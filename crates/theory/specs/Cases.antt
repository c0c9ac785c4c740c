-- Worked cases: one list of facts of the definitions.
use Rattle.std.specs.Prelude.{◌≡◌, ℕ, ◌+◌, ◌-◌, ◌*◌, ◌<◌, true, false, cond, ◌&&◌, List, [], ◌∷◌, ◌++◌, map, length, replicate, Some, Ok, Err, ◌==◌, nat_lt, slice_index}
use Rattle.std.specs.List.{range_with_len}
use Rattle.theory.specs.Answers.{Answer}
use Rattle.theory.specs.Octets.{octets16}
use Rattle.theory.specs.Layouts.{Kind}
use Rattle.theory.specs.Kinds.{key, ycc422, ycc444}
use Rattle.theory.specs.Formats.{Format, Part, layout_of, lawful_format, row_groups, map_octets, plane_width, plane_height}
use Rattle.theory.specs.Pictures.{Picture}
use Rattle.theory.specs.Groups.{octets_of_samples, samples_of_octets, place_column, is_fill, group_octets}
use Rattle.theory.specs.Cutting.{cut, after_packet, srd_headers, packet, whole_part}
use Rattle.theory.specs.Taking.{open_refusal, offer_answer, picture_after, map_after}
use Rattle.theory.specs.Runs.{Start, offer, count, Reached}

-- a progressive format, and the part of it with timestamp 2
abbrev pub format : Kind → ℕ → ℕ → ℕ → ℕ → Format
format k depth width height mode = record {
  kind = k;
  depth = depth;
  width = width;
  height = height;
  scan = 0;
  mode = mode;
  payload_type = 96;
  ssrc = 1;
}

abbrev pub part : Format → Part
part f = record { format = f; timestamp = 2; field = 0 }

-- 4:2:2 at 16 in block mode, of any size, scan, payload type and SSRC
abbrev pub block16 : ℕ → ℕ → ℕ → ℕ → ℕ → Format
block16 w h scan type source = record {
  kind = ycc422;
  depth = 16;
  width = w;
  height = h;
  scan = scan;
  mode = 2;
  payload_type = type;
  ssrc = source;
}

-- the picture of a part with the samples f, and the one with 0 everywhere
abbrev pub picture : Part → (ℕ → ℕ → ℕ → ℕ) → Picture
picture t f = record {
  planes = t.format.kind.planes;
  width = plane_width t;
  height = plane_height t;
  depth = t.format.depth;
  sample = λ p r c. cond (nat_lt r (plane_height t p) && nat_lt c (plane_width t p)) (f p r c) 0;
}

abbrev pub dark : Part → Picture
dark t = picture t (λ _ _ _. 0)

-- an SRD header of this length, row and offset (0x8000 more where another follows)
abbrev pub srd : ℕ → ℕ → ℕ → List ℕ
srd length row offset = octets16 length ++ octets16 row ++ octets16 offset

-- a packet without marker, with these headers and data
abbrev pub packet_of : List ℕ → List ℕ
packet_of rest = 0x80 ∷ 0x60 ∷ 0 ∷ 3 ∷ 0 ∷ 0 ∷ 0 ∷ 2 ∷ 0 ∷ 0 ∷ 0 ∷ 1 ∷ 0 ∷ 1 ∷ rest

-- the first offer to a part that was opened over a dark picture: its answer, and the map after it
abbrev pub clear_map : Part → List ℕ
clear_map t = replicate (map_octets t) 0

abbrev pub first_answer : Part → List ℕ → Answer
first_answer t q = offer_answer t (dark t) (clear_map t) q

abbrev pub first_map : Part → List ℕ → List ℕ
first_map t q = map_after t (dark t) (clear_map t) q

-- 4:2:2 at 10, of one group, of two rows of one group, and of 1,080 rows of one group
abbrev pub one_group : Part
one_group = part (format ycc422 10 2 1 1)

abbrev pub two_rows : Part
two_rows = part (format ycc422 10 2 2 1)

abbrev pub tall : Part
tall = part (format ycc422 10 2 1080 1)

-- one group with C'B 512, Y 64, C'R 512, Y 940, and its octets
abbrev pub colours : Picture
colours = picture one_group (λ p r c. cond (p == 0) (slice_index (64 ∷ 940 ∷ []) c) 512)

abbrev pub colour_octets : List ℕ
colour_octets = 0x80 ∷ 0x04 ∷ 0x08 ∷ 0x03 ∷ 0xAC ∷ []

-- 4:2:2 at 10, 1920 by 1080
abbrev pub large : Part
large = part (format ycc422 10 1920 1080 1)

-- 4:4:4 at 10, a row of 5 columns
abbrev pub five_columns : Part
five_columns = part (format ycc444 10 5 1 1)

-- key at 8, one sample
abbrev pub key_part : Part
key_part = part (format key 8 1 1 1)

abbrev pub key_picture : Picture
key_picture = picture key_part (λ _ _ _. 200)

abbrev pub key_packet : List ℕ
key_packet =
    0x80 ∷ 0xE0 ∷ 0x00 ∷ 0x03 ∷ 0x00 ∷ 0x00 ∷ 0x00 ∷ 0x02 ∷ 0x00 ∷ 0x00 ∷ 0x00 ∷ 0x01
    ∷ 0x00 ∷ 0x01 ∷ 0x00 ∷ 0x01 ∷ 0x00 ∷ 0x00 ∷ 0x00 ∷ 0x00 ∷ 0xC8 ∷ []

-- a run with that packet: opened over a map of ones, a count, the packet twice, a count
pub record KeyRun : Type 0 where
  pub start : Start
  pub part_is : start.part ≡ key_part
  pub picture_is : start.picture ≡ dark key_part
  pub map_is : start.map ≡ 0xFF ∷ []
  pub now : Picture
  pub reached : Reached start (count (Ok 0) ∷ offer key_packet (Ok 0) ∷ offer key_packet (Ok 1) ∷ count (Ok 1) ∷ []) now (0x01 ∷ [])
  pub shows : now.sample 0 0 0 ≡ 200

pub record WorkedCases : Type 0 where
  -- 4:2:2 at 10 with C'B 512, Y 64, C'R 512, Y 940: built, taken apart, and as the group of a picture
  pub group_built : octets_of_samples (ycc422.layout 10) 10 (512 ∷ 64 ∷ 512 ∷ 940 ∷ []) ≡ colour_octets
  pub group_apart : samples_of_octets (ycc422.layout 10) 10 colour_octets ≡ 512 ∷ 64 ∷ 512 ∷ 940 ∷ []
  pub group_of_picture : group_octets one_group colours 0 ≡ colour_octets
  -- key at 8, 1 by 1, sample 200, payload type 96, SSRC 1, timestamp 2, sequence number 65,539: the packet, which is the whole part, is
  -- taken, answers 1, sets the bit and shows the sample
  pub key_packet_is : packet key_part key_picture 65539 0 ≡ key_packet
  pub key_part_is : whole_part key_part key_picture 65539 ≡ key_packet ∷ []
  pub key_answer : first_answer key_part key_packet ≡ Ok 1
  pub key_map : first_map key_part key_packet ≡ 0x01 ∷ []
  pub key_shown : (picture_after key_part (dark key_part) (clear_map key_part) key_packet).sample 0 0 0 ≡ 200
  pub key_run : KeyRun
  -- 4:4:4 at 10 and width 5: two groups in a row; columns 5, 6 and 7 of the second are fill, in each plane
  pub row_rounded : row_groups five_columns.format ≡ 2
  pub fill_count : row_groups five_columns.format * (layout_of five_columns.format).columns - 5 ≡ 3
  pub fill_columns : map (place_column five_columns 1) (range_with_len 0 12) ≡ 4 ∷ 4 ∷ 4 ∷ 5 ∷ 5 ∷ 5 ∷ 6 ∷ 6 ∷ 6 ∷ 7 ∷ 7 ∷ 7 ∷ []
  pub fill_positions : map (is_fill five_columns 1) (range_with_len 0 12) ≡ replicate 3 false ++ replicate 9 true
  pub no_fill_before : map (is_fill five_columns 0) (range_with_len 0 12) ≡ replicate 12 false
  -- 4:2:2 and width 5: plane 1 has width 3, at each depth
  pub plane_rounded : (depth : ℕ) → 0 < (ycc422.layout depth).octets → plane_width (part (format ycc422 depth 5 1 1)) 1 ≡ 3
  -- block mode, 4:2:2 at 10: width 252, a row of 630 octets, stands; width 250 does not, and an opening is refused with 4
  pub block_allowed : lawful_format (format ycc422 10 252 10 2) ≡ true
  pub block_refused : lawful_format (format ycc422 10 250 10 2) ≡ false
  pub block_opening : (m : List ℕ) → open_refusal (part (format ycc422 10 250 10 2)) m ≡ Some 4
  -- block mode with 4:2:2 at 16 never stands, whatever else the format, the part and the map are
  pub never_allowed : (w h scan type source : ℕ) → lawful_format (block16 w h scan type source) ≡ false
  pub never_opened : (w h scan type source time field : ℕ) (m : List ℕ)
      → open_refusal (record { format = block16 w h scan type source; timestamp = time; field = field }) m ≡ Some 4
  -- 4:2:2: of 1,080 rows, row 1079 is taken, and row 1080 is refused with 13
  pub row_taken : first_answer tall (packet_of (srd 5 1079 0 ++ replicate 5 0)) ≡ Ok 1
  pub row_refused : first_answer tall (packet_of (srd 5 1080 0 ++ replicate 5 0)) ≡ Err 13
  -- a lone header of length 0 in place is taken, sets no group and leaves the map
  pub empty_taken : first_answer one_group (packet_of (srd 0 0 0)) ≡ Ok 0
  pub empty_map : first_map one_group (packet_of (srd 0 0 0)) ≡ clear_map one_group
  -- a header of length 0 before another, and after another, is refused with 12
  pub empty_before : first_answer two_rows (packet_of (srd 0 0 0x8000 ++ srd 5 1 0 ++ replicate 5 0)) ≡ Err 12
  pub empty_after : first_answer two_rows (packet_of (srd 5 0 0x8000 ++ srd 0 1 0 ++ replicate 5 0)) ≡ Err 12
  -- 1920 by 1080, 4:2:2 at 10, general mode: the first packet has 286 groups and 1,450 octets
  pub first_cut : cut large 0 ≡ record { first = 0; count = 286 } ∷ []
  pub first_length : length (packet large (dark large) 0 0) ≡ 1450
  -- the fourth has 102 groups from offset 1716 on and 183 of row 1, and 1,451 octets
  pub fourth_begins : after_packet large (after_packet large (after_packet large 0)) ≡ 858
  pub fourth_cut : cut large 858 ≡ record { first = 858; count = 102 } ∷ record { first = 960; count = 183 } ∷ []
  pub fourth_headers : srd_headers large (cut large 858) ≡ srd 510 0 (0x8000 + 1716) ++ srd 915 1 0
  pub fourth_length : length (packet large (dark large) 3 858) ≡ 1451

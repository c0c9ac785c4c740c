-- Sending: how a part is cut into packets, the octets of each packet, and what the calls of a sender answer and leave.
use Rattle.std.specs.Prelude.{ℕ, zero, suc, ◌+◌, ◌-◌, ◌*◌, ◌/◌, ◌%◌, ◌^◌, min, Bool, cond, not, ◌&&◌, List, [], ◌∷◌, ◌++◌, length, drop, Option, ◌==◌, nat_le, nat_lt}
use Rattle.std.specs.List.{range_with_len}
use Rattle.theory.specs.Octets.{octets16, octets32}
use Rattle.theory.specs.Answers.{first_row, is_none, Answer, answer}
use Rattle.theory.specs.Formats.{Part, layout_of, row_groups, groups, lawful_format, lawful_field}
use Rattle.theory.specs.Pictures.{Picture, fits_part}
use Rattle.theory.specs.Groups.{group_octets}

-- a run of groups of one unit row: the number of its first group, and how many there are
pub record Segment : Type 0 where
  pub first : ℕ
  pub count : ℕ

-- the groups from g to the end of its unit row
abbrev pub row_rest : Part → ℕ → ℕ
row_rest t g = row_groups t.format - g % row_groups t.format

-- at most n segments from group g on, in so many octets of space, of which each segment takes `header` and its groups: while groups remain
-- and there is room for one, a segment takes as many as there is room for, or the rest of its row
abbrev pub segments_from : Part → ℕ → ℕ → ℕ → ℕ → List Segment
segments_from t header zero space g = []
segments_from t header (suc n) space g =
    let o = (layout_of t.format).octets in
    let room = (space - header) / o in
    let k = min room (row_rest t g) in
    cond (nat_lt g (groups t) && nat_lt 0 room) (record { first = g; count = k } ∷ segments_from t header n (space - header - k * o) (g + k)) []

-- the segments of the packet that begins at group g: in general mode 1,438 octets for headers and groups, in block mode 1,260 for groups
abbrev pub cut : Part → ℕ → List Segment
cut t g = cond (t.format.mode == 2) (segments_from t 0 3 1260 g) (segments_from t 6 3 1438 g)

-- the groups of these segments together
abbrev pub cut_groups : List Segment → ℕ
cut_groups [] = 0
cut_groups (s ∷ ss) = s.count + cut_groups ss

-- the group after the packet that begins at group g, and whether that packet is the part's last
abbrev pub after_packet : Part → ℕ → ℕ
after_packet t g = g + cut_groups (cut t g)

abbrev pub is_last : Part → ℕ → Bool
is_last t g = nat_le (groups t) (after_packet t g)

-- 12 octets: version 2 without padding, extension and sources; marker and payload type; 16 low bits of the sequence number; timestamp; SSRC
abbrev pub rtp_header : Part → ℕ → Bool → List ℕ
rtp_header t seq last =
    128 ∷ (cond last 128 0 + t.format.payload_type) ∷ octets16 (seq % 65536) ++ octets32 t.timestamp ++ octets32 t.format.ssrc

-- a segment's 6 octets: length; F and row; C and offset
abbrev pub srd_header : Part → Segment → Bool → List ℕ
srd_header t s more =
    let l = layout_of t.format in
    octets16 (s.count * l.octets)
    ++ octets16 (t.field * 32768 + (s.first / row_groups t.format) * t.format.kind.rows)
    ++ octets16 (cond more 32768 0 + (s.first % row_groups t.format) * l.columns)

abbrev pub srd_headers : Part → List Segment → List ℕ
srd_headers t [] = []
srd_headers t (s ∷ ss) = srd_header t s (nat_lt 0 (length ss)) ++ srd_headers t ss

-- the lists of f, one after another
abbrev pub concat_map : (ℕ → List ℕ) → List ℕ → List ℕ
concat_map f [] = []
concat_map f (x ∷ xs) = f x ++ concat_map f xs

-- the octets of the segments' groups
abbrev pub segments_data : Part → Picture → List Segment → List ℕ
segments_data t v [] = []
segments_data t v (s ∷ ss) = concat_map (group_octets t v) (range_with_len s.first s.count) ++ segments_data t v ss

-- the packet that begins at group g, with sequence number seq: its 16 high bits stand before the segments' headers
abbrev pub packet : Part → Picture → ℕ → ℕ → List ℕ
packet t v seq g =
    let ss = cut t g in
    rtp_header t seq (is_last t g) ++ octets16 (seq / 65536) ++ srd_headers t ss ++ segments_data t v ss

-- why the opening of a part to send is refused
abbrev pub send_refusal : Part → Option ℕ
send_refusal t = first_row ((not (lawful_format t.format), 4) ∷ (not (lawful_field t.format t.field), 5) ∷ [])

-- why drawing the packet that begins at group g into a buffer of so many octets is refused
abbrev pub draw_refusal : Part → Picture → ℕ → ℕ → ℕ → Option ℕ
draw_refusal t v seq g room =
    first_row
    ((not (lawful_format t.format), 4)
    ∷ (not (fits_part v t), 6)
    ∷ (nat_lt room (length (packet t v seq g)), 19)
    ∷ [])

-- what drawing it answers, its refusal or the length of the packet, and the buffer after it
abbrev pub draw_answer : Part → Picture → ℕ → ℕ → ℕ → Answer
draw_answer t v seq g room = answer (draw_refusal t v seq g room) (length (packet t v seq g))

abbrev pub buffer_after : Part → Picture → ℕ → ℕ → List ℕ → List ℕ
buffer_after t v seq g buffer =
    cond (is_none (draw_refusal t v seq g (length buffer))) (packet t v seq g ++ drop (length (packet t v seq g)) buffer) buffer

-- the sequence number after one
abbrev pub next_sequence : ℕ → ℕ
next_sequence seq = (seq + 1) % 2 ^ 32

-- the packets from group g on, n at most; sequence numbers grow by one and wrap
abbrev pub packets_from : Part → Picture → ℕ → ℕ → ℕ → List (List ℕ)
packets_from t v zero seq g = []
packets_from t v (suc n) seq g =
    packet t v seq g ∷ cond (is_last t g) [] (packets_from t v n (next_sequence seq) (after_packet t g))

-- a whole part's packets: from the opening to the one with the marker
abbrev pub whole_part : Part → Picture → ℕ → List (List ℕ)
whole_part t v seq = packets_from t v (groups t) seq 0

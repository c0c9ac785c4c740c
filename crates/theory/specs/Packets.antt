-- Packets, as they are read: the RTP header of RFC 3550, the sample row data (SRD) headers of ST 2110-20, and the rows of the refusal table
-- that a packet can meet, each over the whole packet. An octet past the packet's end reads as 0.
use Rattle.std.specs.Prelude.{ℕ, zero, suc, ◌+◌, ◌-◌, ◌*◌, ◌/◌, ◌%◌, Bool, cond, not, ◌&&◌, ◌||◌, List, [], ◌∷◌, length, ◌==◌, nat_le, nat_lt}
use Rattle.theory.specs.Octets.{octet, number16, number32, any_below}
use Rattle.theory.specs.Formats.{Part, layout_of, row_groups, rows}

-- the RTP header: V, P, X and CC in octet 0; M and the payload type in octet 1; the 16 low bits of the sequence number, the timestamp and
-- the SSRC after them
abbrev pub version : List ℕ → ℕ
version q = octet q 0 / 64

abbrev pub padded : List ℕ → Bool
padded q = (octet q 0 / 32) % 2 == 1

abbrev pub extended : List ℕ → Bool
extended q = (octet q 0 / 16) % 2 == 1

abbrev pub sources : List ℕ → ℕ
sources q = octet q 0 % 16

abbrev pub marker : List ℕ → Bool
marker q = octet q 1 / 128 == 1

abbrev pub payload_type : List ℕ → ℕ
payload_type q = octet q 1 % 128

abbrev pub timestamp : List ℕ → ℕ
timestamp q = number32 q 4

abbrev pub ssrc : List ℕ → ℕ
ssrc q = number32 q 8

-- where the sources end, and where the payload begins: behind an extension of 4 + 4n octets, n being its second 16-bit number
abbrev pub sources_end : List ℕ → ℕ
sources_end q = 12 + 4 * sources q

abbrev pub payload_start : List ℕ → ℕ
payload_start q = sources_end q + cond (extended q) (4 + 4 * number16 q (sources_end q + 2)) 0

-- the octets of padding, which the last one counts, and where the payload ends
abbrev pub padding : List ℕ → ℕ
padding q = cond (padded q) (octet q (length q - 1)) 0

abbrev pub payload_end : List ℕ → ℕ
payload_end q = length q - padding q

-- where SRD header i begins: the payload has the 16 high bits of the sequence number, then headers of 6 octets
abbrev pub header : List ℕ → ℕ → ℕ
header q i = payload_start q + 2 + 6 * i

-- the fields of SRD header i: length 16 bits, F 1, row 15, C 1, offset 15
abbrev pub srd_length : List ℕ → ℕ → ℕ
srd_length q i = number16 q (header q i)

abbrev pub srd_field : List ℕ → ℕ → ℕ
srd_field q i = octet q (header q i + 2) / 128

abbrev pub srd_row : List ℕ → ℕ → ℕ
srd_row q i = number16 q (header q i + 2) % 32768

abbrev pub continues : List ℕ → ℕ → Bool
continues q i = octet q (header q i + 4) / 128 == 1

abbrev pub srd_offset : List ℕ → ℕ → ℕ
srd_offset q i = number16 q (header q i + 4) % 32768

-- how many headers there are: C = 1 says that another follows, up to three
abbrev pub headers : List ℕ → ℕ
headers q = cond (continues q 0) (cond (continues q 1) 3 2) 1

-- the lengths of the first n segments together
abbrev pub lengths : List ℕ → ℕ → ℕ
lengths q zero = 0
lengths q (suc n) = lengths q n + srd_length q n

-- where the segments begin, one after another in the order of their headers, and how many octets follow the headers
abbrev pub data_start : List ℕ → ℕ
data_start q = header q (headers q)

abbrev pub data_octets : List ℕ → ℕ
data_octets q = payload_end q - data_start q

-- segment i: its unit row, its first group in that row, how many groups
abbrev pub unit_row : Part → List ℕ → ℕ → ℕ
unit_row t q i = srd_row q i / t.format.kind.rows

abbrev pub first_group : Part → List ℕ → ℕ → ℕ
first_group t q i = srd_offset q i / (layout_of t.format).columns

abbrev pub segment_groups : Part → List ℕ → ℕ → ℕ
segment_groups t q i = srd_length q i / (layout_of t.format).octets

abbrev differ : ℕ → ℕ → Bool
differ a b = not (a == b)

abbrev any_header : List ℕ → (ℕ → Bool) → Bool
any_header q f = any_below (headers q) f

-- 7: over 1,452 octets
abbrev pub too_long : List ℕ → Bool
too_long q = nat_lt 1452 (length q)

-- 8: under 12 octets, or version not 2
abbrev pub no_rtp : List ℕ → Bool
no_rtp q = nat_lt (length q) 12 || differ (version q) 2

-- 9: sources, extension and padding together pass the end, or padding counted as 0
abbrev pub overrun : List ℕ → Bool
overrun q = nat_lt (length q) (payload_start q + padding q) || (padded q && padding q == 0)

-- 10: other payload type, SSRC or timestamp
abbrev pub other_stream : Part → List ℕ → Bool
other_stream t q =
    differ (payload_type q) t.format.payload_type || differ (ssrc q) t.format.ssrc || differ (timestamp q) t.timestamp

-- 11: headers cut, or C = 1 in the third
abbrev pub headers_cut : List ℕ → Bool
headers_cut q =
    nat_lt (payload_end q) (header q 1)
    || (continues q 0 && nat_lt (payload_end q) (header q 2))
    || (continues q 0 && continues q 1 && (nat_lt (payload_end q) (header q 3) || continues q 2))

-- 12: a length that is no multiple of the group's octets, or 0 beside another header
abbrev pub bad_length : Part → List ℕ → Bool
bad_length t q = any_header q (λ i.
    differ (srd_length q i % (layout_of t.format).octets) 0 || (nat_lt 1 (headers q) && srd_length q i == 0))

-- 13: F not the part's field, or a row beyond the part or no multiple of the group's rows
abbrev pub bad_row : Part → List ℕ → Bool
bad_row t q = any_header q (λ i.
    differ (srd_field q i) t.field || nat_le (rows t) (srd_row q i) || differ (srd_row q i % t.format.kind.rows) 0)

-- 14: an offset that is no multiple of the group's columns or not below the width, or a segment past the row's last group
abbrev pub bad_offset : Part → List ℕ → Bool
bad_offset t q = any_header q (λ i.
    differ (srd_offset q i % (layout_of t.format).columns) 0
    || nat_le t.format.width (srd_offset q i)
    || nat_lt (row_groups t.format) (first_group t q i + segment_groups t q i))

-- 15: a header on a smaller row than the one before, or on the same row before that one's end
abbrev pub out_of_turn : Part → List ℕ → Bool
out_of_turn t q = any_below (headers q - 1) (λ i.
    nat_lt (srd_row q (i + 1)) (srd_row q i)
    || (srd_row q (i + 1) == srd_row q i && nat_lt (first_group t q (i + 1)) (first_group t q i + segment_groups t q i)))

-- 16: the lengths exceed what follows the headers
abbrev pub data_short : List ℕ → Bool
data_short q = nat_lt (data_octets q) (lengths q (headers q))

-- 17: octets left over, M = 0
abbrev pub left_over : List ℕ → Bool
left_over q = nat_lt (lengths q (headers q)) (data_octets q) && not (marker q)

-- 18: block mode, M = 0, and the lengths together no multiple of 180
abbrev pub broken_block : Part → List ℕ → Bool
broken_block t q = t.format.mode == 2 && not (marker q) && differ (lengths q (headers q) % 180) 0

-- rows 7 to 18 of the table, in their order
abbrev pub packet_rows : Part → List ℕ → List (Bool × ℕ)
packet_rows t q =
    (too_long q, 7)
    ∷ (no_rtp q, 8)
    ∷ (overrun q, 9)
    ∷ (other_stream t q, 10)
    ∷ (headers_cut q, 11)
    ∷ (bad_length t q, 12)
    ∷ (bad_row t q, 13)
    ∷ (bad_offset t q, 14)
    ∷ (out_of_turn t q, 15)
    ∷ (data_short q, 16)
    ∷ (left_over q, 17)
    ∷ (broken_block t q, 18)
    ∷ []

-- What the packets of a whole part are, in the words of the subject.
use Rattle.std.specs.Prelude.{◌≡◌, ℕ, ◌+◌, ◌/◌, ◌%◌, ◌^◌, ◌<◌, ◌≤◌, Bool, true, ◌&&◌, List, [], length, None, ◌==◌, nat_le, nat_lt, slice_index_or}
use Rattle.theory.specs.Answers.{first_row}
use Rattle.theory.specs.Octets.{octet, number16}
use Rattle.theory.specs.Formats.{Part, groups, map_octets}
use Rattle.theory.specs.Pictures.{Picture, inside, fits_part}
use Rattle.theory.specs.Groups.{group_of, group_octets}
use Rattle.theory.specs.Packets.{marker, packet_rows}
use Rattle.theory.specs.Taking.{names, octets_of, reads, taken}

-- this packet carries the groups from `from` up to, and without, `to` of this picture, with sequence number seq; it is the part's last or not
pub record Carries (t : Part) (v : Picture) (seq from to : ℕ) (last : Bool) (q : List ℕ) : Type 0 where
  -- version 2, without padding, extension and sources
  pub first_octet : octet q 0 ≡ 128
  -- at most 1,452 octets
  pub short : length q ≤ 1452
  -- the 16 low bits of the sequence number in octets 2 and 3, its 16 high bits in octets 12 and 13
  pub low_bits : number16 q 2 ≡ seq % 2 ^ 16
  pub high_bits : number16 q 12 ≡ seq / 2 ^ 16
  -- the marker on the last packet alone
  pub marked : marker q ≡ last
  -- no row of the table refuses it, so that every store that fits the part takes it, over every map that is long enough
  pub allowed : first_row (packet_rows t q) ≡ None
  pub is_taken : (u : Picture) (m : List ℕ) → fits_part u t ≡ true → map_octets t ≤ length m → taken t u m q ≡ true
  -- it names just these groups, one at least
  pub some : from < to
  pub named : (g : ℕ) → names t q g ≡ (nat_le from g && nat_lt g to)
  -- with the picture's octets for each, so that it reads as the picture at their places
  pub carried : (g : ℕ) → names t q g ≡ true → octets_of t q g ≡ group_octets t v g
  pub shown : (p r c : ℕ) → inside v p r c ≡ true → names t q (group_of t p r c) ≡ true → reads t q p r c ≡ v.sample p r c

-- these packets, in this order, carry this picture as this part, from this sequence number on: packet i, with sequence number seq + i modulo
-- 2 ^ 32, has the groups from `begin i` up to, and without, `begin (i + 1)`, so that in their order they name the groups 0, 1, .. of the part,
-- each once; the marker is on the last one alone
pub record WholePart (t : Part) (v : Picture) (seq : ℕ) (qs : List (List ℕ)) : Type 0 where
  pub some : 0 < length qs
  pub begin : ℕ → ℕ
  pub begin_first : begin 0 ≡ 0
  pub begin_last : begin (length qs) ≡ groups t
  pub each : (i : ℕ) → i < length qs
      → Carries t v ((seq + i) % 2 ^ 32) (begin i) (begin (i + 1)) (i + 1 == length qs) (slice_index_or qs i [])

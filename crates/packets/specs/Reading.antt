-- What reading a packet for a part answers. Assumes nothing.
use Rattle.std.specs.Prelude.{ℕ, ◌+◌, Bool, not, List, ◌∷◌, take, drop, Some, None, Ok, Err, Option, Result}
use Rattle.theory.specs.Answers.{first_row, unless, verdict}
use Rattle.theory.specs.Formats.{Part, lawful_format}
use Rattle.theory.specs.Packets.{marker, headers, srd_length, lengths, data_start, unit_row, first_group, segment_groups, packet_rows}

-- a segment: its octets, and its place
pub record Placed : Type 0 where
  pub octets : List ℕ
  pub unit_row : ℕ
  pub first_group : ℕ
  pub groups : ℕ

-- what a packet carries: its marker, how many segments, and each of them
pub record Carried : Type 0 where
  pub marker : Bool
  pub count : ℕ
  pub segment : ℕ → Placed

-- segment i is that part of the packet
abbrev pub segment_at : Part → List ℕ → ℕ → Placed
segment_at t q i = record {
  octets = take (srd_length q i) (drop (data_start q + lengths q i) q);
  unit_row = unit_row t q i;
  first_group = first_group t q i;
  groups = segment_groups t q i;
}

abbrev pub carried : Part → List ℕ → Carried
carried t q = record { marker = marker q; count = headers q; segment = segment_at t q }

-- rows 7 to 18 of the refusal table
abbrev pub packet_check : Part → List ℕ → Result (Unit {0}) ℕ
packet_check t q = verdict (first_row (packet_rows t q))

-- row 4 before them
abbrev pub reading_refusal : Part → List ℕ → Option ℕ
reading_refusal t q = first_row ((not (lawful_format t.format), 4) ∷ packet_rows t q)

abbrev pub reading_check : Part → List ℕ → Result (Unit {0}) ℕ
reading_check t q = verdict (reading_refusal t q)

-- the refusal, or what the packet carries
abbrev pub reading : Part → List ℕ → Result Carried ℕ
reading t q = unless (reading_refusal t q) (carried t q)

-- What the packets and segments of the code stand for. Assumes nothing.
use Rattle.std.specs.Prelude.{ℕ, ◌+◌, ◌/◌, cond, List, take, drop, Some, None, Ok, Err, Option, Result, nat_lt}
use Rattle.refusals.specs.declared.Refusal.{Refusal}
use Rattle.refusals.specs.Numbers.{number_of}
use Rattle.theory.specs.Packets as rules
use Rattle.packets.specs.Reading.{Placed, Carried}
use Rattle.packets.specs.declared.packet.Packet.{Packet}
use Rattle.packets.specs.declared.packet.Segment.{Segment}

abbrev pub placed : Segment → Placed
placed s = record { octets = s.octets.now; unit_row = s.unit_row; first_group = s.first_group; groups = s.groups }

-- what octets carry, for groups of so many octets, columns and rows
abbrev pub carried_by : List ℕ → ℕ → ℕ → ℕ → Carried
carried_by q octets columns rows = record {
  marker = rules.marker q;
  count = rules.headers q;
  segment = λ i. record {
    octets = take (rules.srd_length q i) (drop (rules.data_start q + rules.lengths q i) q);
    unit_row = rules.srd_row q i / rows;
    first_group = rules.srd_offset q i / columns;
    groups = rules.srd_length q i / octets;
  };
}

abbrev pub carries : Packet → Carried
carries p = carried_by p.octets.now p.group_octets p.group_columns p.group_rows

-- segment i, if there is one
abbrev pub segment_of : Carried → ℕ → Option Placed
segment_of w i = cond (nat_lt i w.count) (Some (w.segment i)) None

-- an answer of the code, as the definitions have it
abbrev pub outcome : Result Packet Refusal → Result Carried ℕ
outcome (Ok p) = Ok (carries p)
outcome (Err e) = Err (number_of e)

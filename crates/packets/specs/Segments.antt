-- The segments of a packet as a list. Assumes nothing.
use Rattle.std.specs.Prelude.{ℕ, ◌-◌, List, map}
use Rattle.std.specs.List.{range_with_len}
use Rattle.packets.specs.Reading.{Placed, Carried}
use Rattle.packets.specs.Carried.{carries}
use Rattle.packets.specs.declared.segments.Segments.{Segments}

-- from segment i on, in the order of their headers
abbrev pub segments_from : Carried → ℕ → List Placed
segments_from w i = map w.segment (range_with_len i (w.count - i))

-- all of them
abbrev pub segments_of : Carried → List Placed
segments_of w = segments_from w 0

-- what an iterator has left
abbrev pub segments_left : Segments → List Placed
segments_left s = segments_from (carries s.packet) s.index

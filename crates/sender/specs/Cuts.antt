-- The segments of a packet, as the code walks through them.
use Rattle.std.specs.Prelude.{◌≡◌, List, Option}
use Rattle.std.specs.Iterator.{YieldsFirstBy}
use Rattle.formats.specs.Meaning.{part_of}
use Rattle.kinds.specs.declared.kind.GroupKind as GroupKind
use Rattle.stores.specs.declared.store.Store as Store
use Rattle.theory.specs.Cutting.{Segment, segments_from}
use Rattle.sender.specs.declared.cutting.Segments.{Segments}
use Rattle.sender.specs.declared.cutting.Segment as declared

abbrev pub segment_of : declared.Segment → Segment
segment_of s = record { first = s.first; count = s.count }

-- those that are still to come
abbrev pub segments_left : {K S : Type 0} {k : GroupKind.Ghosts K} {p : Store.Ghosts S} → Segments K S k p → List Segment
segments_left {k = k} s = segments_from (part_of k.kind s.source.part.now) s.header s.most s.space s.first

-- a call of `next` gives the first of them, and the rest are of the same source
abbrev pub WalksSegments : {K S : Type 0} {k : GroupKind.Ghosts K} {p : Store.Ghosts S} → Segments K S k p → Option declared.Segment → Segments K S k p
    → Type 0
WalksSegments s r t = (t.source ≡ s.source) × YieldsFirstBy segment_of segments_left s r t

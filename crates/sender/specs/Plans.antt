-- The packet that begins at a group, as it was written, and the state behind it.
use Rattle.std.specs.Prelude.{◌≡◌, ℕ, cond, length, Some, None, Ok, Err, Option, Result}
use Rattle.refusals.specs.declared.Refusal.{Refusal}
use Rattle.refusals.specs.Numbers.{number_of}
use Rattle.theory.specs.Formats.{Part}
use Rattle.theory.specs.Pictures.{Picture}
use Rattle.theory.specs.Cutting.{packet, is_last, after_packet, next_sequence, draw_refusal}
use Rattle.sender.specs.declared.drawing.Written.{Written}
use Rattle.sender.specs.Drawing.{State, Outcome, more, last}

-- the first group of the packet behind it; none where it is the last of the part
abbrev pub following : Part → ℕ → Option ℕ
following t g = cond (is_last t g) None (Some (after_packet t g))

abbrev pub written : Part → Picture → ℕ → ℕ → Written
written t v seq g = record { octets = length (packet t v seq g); next = following t g }

abbrev pub outcome_of : {K : Type 0} → State K → ℕ → Option ℕ → Outcome K
outcome_of s n None = last (next_sequence s.sequence) n
outcome_of s n (Some g) = more (record { part = s.part; sequence = next_sequence s.sequence; group = g }) n

abbrev pub after_written : {K : Type 0} → State K → Written → Outcome K
after_written s w = outcome_of s w.octets w.next

-- a draw was not refused and its packet was written, or it was refused
abbrev pub Drew : Part → Picture → ℕ → ℕ → ℕ → Result Written Refusal → Type 0
Drew t v seq g room (Ok w) = (draw_refusal t v seq g room ≡ None) × (w ≡ written t v seq g)
Drew t v seq g room (Err e) = draw_refusal t v seq g room ≡ Some (number_of e)

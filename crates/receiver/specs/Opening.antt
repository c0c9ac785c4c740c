-- What opening a part answers, and the part that is open then.
use Rattle.std.specs.Prelude.{ℕ, List, Ok, Err, Result}
use Rattle.formats.specs.Meaning.{part_of}
use Rattle.formats.specs.declared.format.Format.{Format}
use Rattle.refusals.specs.declared.Refusal.{Refusal}
use Rattle.refusals.specs.Numbers.{number_of}
use Rattle.theory.specs.Answers.{unless}
use Rattle.theory.specs.Layouts.{Kind}
use Rattle.theory.specs.Formats.{Part}
use Rattle.theory.specs.Taking.{open_refusal}
use Rattle.receiver.specs.declared.states.Idle.{Idle}
use Rattle.receiver.specs.declared.states.Open.{Open}

-- the part, or the number of the refusal
abbrev pub opening : Part → List ℕ → Result Part ℕ
opening t m = unless (open_refusal t m) t

-- the part of this format, with this timestamp and this field
abbrev pub part_with : {K : Type 0} → (K → Kind) → Format K → ℕ → ℕ → Part
part_with kind format timestamp field = part_of kind (record { format = format; timestamp = timestamp; field = field })

-- the part that an open receiver has
abbrev pub part_open : {K : Type 0} → (K → Kind) → Open K → Part
part_open kind o = part_of kind o.part

-- an answer of the code, as the definitions have it
abbrev pub outcome : {K : Type 0} → (K → Kind) → Result (Open K) (Idle × Refusal) → Result Part ℕ
outcome kind (Ok o) = Ok (part_open kind o)
outcome kind (Err e) = Err (number_of e.1)

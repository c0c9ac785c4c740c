-- What opening a part to send and drawing its packets answer.
use Rattle.std.specs.Prelude.{ℕ, cond, length, Some, None, Ok, Err, Option, Result}
use Rattle.refusals.specs.declared.Refusal.{Refusal}
use Rattle.refusals.specs.Numbers.{number_of}
use Rattle.formats.specs.declared.format.Format.{Format}
use Rattle.formats.specs.declared.part.Part.{Part}
use Rattle.formats.specs.Meaning.{part_of}
use Rattle.theory.specs.Answers.{unless}
use Rattle.theory.specs.Layouts.{Kind}
use Rattle.theory.specs.Pictures.{Picture}
use Rattle.theory.specs.Cutting.{packet, is_last, after_packet, next_sequence, send_refusal, draw_refusal}
use Rattle.sender.specs.declared.sending.Sending.{Sending}
use Rattle.sender.specs.declared.sending.Step.{Step}
use Rattle.sender.specs.declared.sending.Step.TheVariants.{More, Last}

-- a part on its way, with the sequence number and the first group of its next packet
pub record State (K : Type 0) : Type 0 where
  pub part : Part K
  pub sequence : ℕ
  pub group : ℕ

abbrev pub state_of : {K : Type 0} → Sending K → State K
state_of s = record { part = s.part; sequence = s.sequence; group = s.group }

-- what an opening answers: the part before its first packet, which has this sequence number, or the number of its refusal
abbrev pub opening : {K : Type 0} → (K → Kind) → Format K → ℕ → ℕ → ℕ → Result (State K) ℕ
opening kind format timestamp field seq =
    let p : Part _ = record { format = format; timestamp = timestamp; field = field } in
    unless (send_refusal (part_of kind p)) (record { part = p; sequence = seq; group = 0 })

abbrev pub answered : {K : Type 0} → Result (Sending K) Refusal → Result (State K) ℕ
answered (Ok s) = Ok (state_of s)
answered (Err e) = Err (number_of e)

-- what a packet leaves: it has this length, and the part goes on from a state, or is sent and the next one begins with this sequence number
pub data Outcome (K : Type 0) : Type 0 where
  more : State K → ℕ → Outcome K
  last : ℕ → ℕ → Outcome K

abbrev pub step_of : {K : Type 0} → Step K → Outcome K
step_of (More s n) = more (state_of s) n
step_of (Last e n) = last e.sequence n

-- what a draw answers: what its packet leaves; or the state as it was, and the number of a refusal
abbrev pub stepped : {K : Type 0} → Result (Step K) (Sending K × Refusal) → Result (Outcome K) (State K × ℕ)
stepped (Ok step) = Ok (step_of step)
stepped (Err e) = Err (state_of e.0, number_of e.1)

abbrev pub refused_or : {K : Type 0} → Option ℕ → State K → Outcome K → Result (Outcome K) (State K × ℕ)
refused_or None s o = Ok o
refused_or (Some row) s o = Err (s, row)

abbrev pub drawing : {K : Type 0} → (K → Kind) → Picture → State K → ℕ → Result (Outcome K) (State K × ℕ)
drawing kind v s room =
    let t = part_of kind s.part in
    let n = length (packet t v s.sequence s.group) in
    let seq = next_sequence s.sequence in
    refused_or (draw_refusal t v s.sequence s.group room) s
    (cond (is_last t s.group) (last seq n) (more (record { part = s.part; sequence = seq; group = after_packet t s.group }) n))

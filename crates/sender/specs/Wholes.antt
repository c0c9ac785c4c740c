-- The packets of a whole part, as they are drawn.
use Rattle.std.specs.Prelude.{◌≡◌, ℕ, false, List, [], ◌∷◌, ◌++◌, Ok, Err, Result}
use Rattle.refusals.specs.declared.Refusal.{Refusal}
use Rattle.theory.specs.Formats.{Part}
use Rattle.theory.specs.Pictures.{Picture}
use Rattle.theory.specs.Cutting.{packet, is_last, after_packet, next_sequence}
use Rattle.sender.specs.declared.sending.Sending.{Sending}
use Rattle.sender.specs.declared.sending.Step.{Step}
use Rattle.sender.specs.declared.sending.Step.TheVariants.{More, Last}

-- from an opening with sequence number `first` on, these packets were drawn, in their order; the next one has this sequence number and
-- begins at this group
pub data Drawn (t : Part) (v : Picture) (first : ℕ) : List (List ℕ) → ℕ → ℕ → Type 0 where
  opened : Drawn t v first [] first 0
  drawn : {ps : List (List ℕ)} {seq g : ℕ} → Drawn t v first ps seq g → is_last t g ≡ false
      → Drawn t v first (ps ++ (packet t v seq g ∷ [])) (next_sequence seq) (after_packet t g)

-- where a packet was drawn that is the last of its part, this holds of its length
abbrev pub IfLast : {K : Type 0} → Result (Step K) (Sending K × Refusal) → (ℕ → Type 0) → Type 0
IfLast (Ok (More s n)) P = Unit {0}
IfLast (Ok (Last e n)) P = P n
IfLast (Err e) P = Unit {0}

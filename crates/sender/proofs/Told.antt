-- What the answer of a draw tells its caller, and why drawing comes to an end.
use Rattle.std.proofs.Common.{◌≡◌, ℕ, ◌-◌, ◌<◌, Bool, true, false, cond, length, Some, None, Ok, Option, refl, ap, arith}
use Rattle.std.proofs.lemmas.Bool.{leb-false}
use Rattle.formats.specs.Meaning.{part_of}
use Rattle.theory.specs.Layouts.{Kind, LawfulKind}
use Rattle.theory.specs.Formats.{Part, groups}
use Rattle.theory.specs.Pictures.{Picture}
use Rattle.theory.specs.Cutting.{packet, is_last, after_packet, next_sequence, draw_refusal}
use Rattle.theory.proofs.Written.{after_more}
use Rattle.sender.specs.declared.sending.Sending.{Sending}
use Rattle.sender.specs.Drawing.{State, more, last, state_of, refused_or, drawing}
use Rattle.sender.specs.Tested.{Tested}
use Rattle.sender.proofs.Outcomes.{lawful_when}
use Rattle.sender.proofs.Sizes.{limits}

-- a packet of n octets was drawn in state s, and the part goes on from the state `next`
pub record WentOn {K : Type 0} (kind : K → Kind) (v : Picture) (s next : State K) (room n : ℕ) : Type 0 where
  pub allowed : draw_refusal (part_of kind s.part) v s.sequence s.group room ≡ None
  pub not_last : is_last (part_of kind s.part) s.group ≡ false
  pub part : next.part ≡ s.part
  pub sequence : next.sequence ≡ next_sequence s.sequence
  pub group : next.group ≡ after_packet (part_of kind s.part) s.group
  pub octets : n ≡ length (packet (part_of kind s.part) v s.sequence s.group)

pub more_told : {K : Type 0} (kind : K → Kind) (v : Picture) (s next : State K) (room n : ℕ) → Ok (more next n) ≡ drawing kind v s room
    → WentOn kind v s next room n
more_told {K} kind v s next room n e =
    let t = part_of kind s.part in
    let r = go (draw_refusal t v s.sequence s.group room) (is_last t s.group) _ _ _ e in
    record {
      allowed = r.0;
      not_last = r.1;
      part = ap (λ x. x.part) r.2;
      sequence = ap (λ x. x.sequence) r.2;
      group = ap (λ x. x.group) r.2;
      octets = r.3;
    }
  where
    go : (o : Option ℕ) (b : Bool) (seq m : ℕ) (then : State K)
        → Ok (more next n) ≡ refused_or o s (cond b (last seq m) (more then m))
        → (o ≡ None) × (b ≡ false) × (next ≡ then) × (n ≡ m)
    go None false seq m then e = (refl, refl, cc, cc)
    go None true seq m then e = absurd (let z : ◌≡◌ {A = ℕ} 0 1 = cc in omega arith)
    go (Some row) b seq m then e = absurd (let z : ◌≡◌ {A = ℕ} 0 1 = cc in omega arith)

-- with each packet fewer groups are left: the measure of a loop that draws to the end of a part
pub nearer : {K : Type 0} (kind : K → Kind) → ((x : K) → LawfulKind (kind x)) → (v : Picture) (s next : Sending K) (room n : ℕ)
    → Ok (more (state_of next) n) ≡ drawing kind v (state_of s) room
    → groups (part_of kind next.part) - next.group < groups (part_of kind s.part) - s.group
nearer kind laws v s next room n e =
    let t : Part = part_of kind s.part in
    let w = more_told kind v (state_of s) (state_of next) room n e in
    let tested : Tested t = record { format_allowed = lawful_when t v s.sequence s.group room w.allowed; field_allowed = s.allowed } in
    let inside : after_packet t s.group < groups t = leb-false (groups t) (after_packet t s.group) w.not_last in
    let further = after_more t (limits (laws s.part.format.kind) tested) s.group (omega arith) in
    let same : groups (part_of kind next.part) ≡ groups t = ap (λ p. groups (part_of kind p)) w.part in
    omega (arith, w.group)

use Rattle.std.proofs.Common.{◌≡◌, ℕ, List, [], ◌∷◌, ◌++◌, length, take, Ok, sym, ap, ◌∙◌}
use Rattle.formats.specs.Meaning.{part_of}
use Rattle.theory.specs.Cutting.{packet, whole_part}
use Rattle.sender.specs.Drawing.{state_of}
use Rattle.sender.specs.Wholes.{Drawn}
use Rattle.sender.proofs.Outcomes.{drawn_as_written, refused_as, buffer_written, lawful_when}
use Rattle.sender.proofs.Sizes.{limits}
use Rattle.sender.proofs.Wholes.{whole_with_last, front, at_last, last_when}
use Rattle.sender.proofs.sending.Sending.next.Goals as goal

pub returns-in-Err-clause-answer : goal.returns-in-Err-clause-answer
returns-in-Err-clause-answer g c =
    refused_as g.K.GroupKind.kind (g.S.Store.picture c.args.store.now) (state_of c.args.self) (length c.args.buffer.now) c.in-Err.ensures.answer

pub returns-in-Ok : goal.returns-in-Ok
returns-in-Ok g c =
    let s = c.args.self in
    let t = part_of g.K.GroupKind.kind s.part in
    let v = g.S.Store.picture c.args.store.now in
    let old = c.args.buffer.now in
    let out = c.draw.new.buffer in
    let p = c.in-Ok.written in
    let none = c.in-Ok.ensures.answer.0 in
    let is = c.in-Ok.ensures.answer.1 in
    let w = limits (g.met.K.GroupKind.lawful s.part.format.kind)
    (record { format_allowed = lawful_when t v s.sequence s.group (length old) none; field_allowed = s.allowed }) in
    let Whole : ℕ → Type 0 = λ n. (first : ℕ) (ps : List (List ℕ)) → Drawn t v first ps s.sequence s.group
    → ps ++ (take n out ∷ []) ≡ whole_part t v first in
    let long : length (packet t v s.sequence s.group) ≡ p.octets = sym (ap (λ x. x.octets) is) in
    let there = front _ old out p.octets long (c.draw.ensures.buffer ∙ sym (buffer_written t v s.sequence s.group old none)) in
    record {
      answer = ap Ok c.after.ensures ∙ drawn_as_written g.K.GroupKind.kind v (state_of s) (length old) p none is;
      buffer = c.draw.ensures.buffer;
      whole = at_last c.after.result Whole (state_of s) p.octets p.next c.after.ensures
          (λ last first ps d. ap (λ q. ps ++ (q ∷ [])) there
          ∙ whole_with_last t w v d (last_when t s.group (sym (ap (λ x. x.next) is) ∙ last)));
    }

use Rattle.std.proofs.Common.{◌-◌, ◌/◌, ◌%◌, ◌<◌, ◌≤◌, min, refl, ap, ◌∙◌, subst, inl, inr, mul-le-mul_right, div-mul-le_self, arith}
use native.Mathlib.Nat.{div-eq_of_lt}
use Rattle.std.proofs.lemmas.Nat.{le-div, mod_below}
use Rattle.formats.specs.Meaning.{part_of}
use Rattle.sender.proofs.Cuts.{segments_some, segments_none}
use Rattle.sender.proofs.Sizes.{limits_of, few_row_groups, few_groups}
use Rattle.sender.proofs.cutting.SegmentsIterator.next.Goals as goal
use Rattle.sender.proofs.cutting.SegmentsIterator.next.Goals.{
  then-self-eq0-via-then-self-eq0,
  then-self-eq0-via-else-self-eq0+then-source-first,
  then-self-eq0-via-else-self-eq0+else-source-first+then-room-source,
}

pub nonzero_rem-first : goal.nonzero_rem-first
nonzero_rem-first g c =
    let s = c.args.self.now.source in
    omega (arith, (limits_of g.met.K.GroupKind.lawful s).row_pos, s.row_groups_are)

pub overflow_sub-source : goal.overflow_sub-source
overflow_sub-source g c =
    let s = c.args.self.now.source in
    let pos : 0 < s.row_groups = omega (arith, (limits_of g.met.K.GroupKind.lawful s).row_pos, s.row_groups_are) in
    omega (arith, mod_below c.args.self.now.first s.row_groups pos)

pub overflow_sub-self : goal.overflow_sub-self
overflow_sub-self g c =
    let s = c.args.self.now.source in
    let r = c.saturating_sub-room.result in
    let pos : 0 < s.octets = omega (arith, (limits_of g.met.K.GroupKind.lawful s).octets_pos, s.octets_are) in
    let le : c.min-count.result ≤ r / s.octets = omega arith in
    omega (arith, mul-le-mul_right s.octets le, div-mul-le_self r s.octets)

pub overflow_add-self-2 : goal.overflow_add-self-2
overflow_add-self-2 g c =
    let s = c.args.self.now.source in
    let w = limits_of g.met.K.GroupKind.lawful s in
    omega (arith, few_row_groups w, few_groups w, s.row_groups_are, s.groups_are)

pub returns-then-self-eq0-clause-steps : goal.returns-then-self-eq0-clause-steps
returns-then-self-eq0-clause-steps g c =
    let a = c.args.self.now in
    let s = a.source in
    let none = segments_none (part_of g.K.GroupKind.kind s.part.now) s.octets_are s.row_groups_are s.groups_are a.header a.most a.space a.first
    (elim c.then-self-eq0.branch [
      | then-self-eq0-via-then-self-eq0 w ↦ inl w.if-self-eq0.true
      | then-self-eq0-via-else-self-eq0+then-source-first w ↦ inr (inl w.if-source-first.true)
      | then-self-eq0-via-else-self-eq0+else-source-first+then-room-source w ↦ inr
          (inr (div-eq_of_lt (let low : a.space - a.header < s.octets = omega (arith, c.saturating_sub-room.ensures, w.if-room-source.true) in low)))
    ]) in
    (refl, (none, none))

pub returns-clause-steps : goal.returns-clause-steps
returns-clause-steps g c =
    let a = c.args.self.now in
    let s = a.source in
    let pos : 0 < s.octets = omega (arith, (limits_of g.met.K.GroupKind.lawful s).octets_pos, s.octets_are) in
    let room : 0 < c.saturating_sub-room.result / s.octets = le-div 1 c.saturating_sub-room.result s.octets pos (omega (arith, c.if-room-source.false)) in (
      refl,
      segments_some (part_of g.K.GroupKind.kind s.part.now) s.octets_are s.row_groups_are s.groups_are a.header a.most a.space a.first
          c.min-count.result (omega arith) c.if-source-first.false (subst (λ x. 0 < x / s.octets) c.saturating_sub-room.ensures room)
          (c.min-count.ensures ∙ ap (λ x. min (x / s.octets) (s.row_groups - a.first % s.row_groups)) c.saturating_sub-room.ensures),
    )

use Rattle.std.proofs.Common.{◌≡◌, ℕ, ◌+◌, ◌-◌, ◌*◌, ◌≤◌, List, length, take, sym, ap, ◌∙◌, zero-mul, arith, rules}
use borrow.Rule.Slice.PartMut.{put_mid}
use Rattle.std.specs.List.{range_with_len}
use Rattle.std.proofs.lemmas.List.{take_all}
use Rattle.formats.specs.Meaning.{part_of}
use Rattle.theory.specs.Groups.{group_octets}
use Rattle.theory.specs.Cutting.{concat_map}
use Rattle.theory.proofs.Contents.{length_group_octets}
use Rattle.sender.proofs.Pieces.{room_for, pieces_more}
use Rattle.sender.proofs.Sizes.{limits_of, few_octets}
use Rattle.sender.proofs.source.Source.write_groups.Goals as goal

pub loop-run-init : goal.loop-run-init
loop-run-init g c =
    let s = c.args.self.now in
    let it = c.into_iter-run-iterator.result in
    let e = c.into_iter-run-iterator.ensures.into_iter_gives in
    let next : it.next ≡ c.args.first = ap (λ x. x.next) e in
    let left : it.left ≡ c.args.count = ap (λ x. x.left) e in
    let none : it.next - c.args.first ≡ 0 = omega arith in
    let f : ℕ → List ℕ = group_octets (part_of g.K.GroupKind.kind s.part.now) (g.S.Store.picture s.store.now) in (
      tt,
      tt,
      record {
        source = ap (λ x. x.source) e;
        before = omega arith;
        rest = omega arith;
        start = sym (ap (λ k. k * s.octets) none ∙ zero-mul s.octets);
        written = sym (ap (λ k. concat_map f (range_with_len c.args.first k)) none);
      },
    )

pub overflow_mul-end : goal.overflow_mul-end
overflow_mul-end g c =
    let s = c.args.self.now in
    let it = c.loop-run.run-iterator in
    let inv = c.loop-run.invariant.2 in
    let step = c.in-Some.ensures.steps in
    let n = c.in-Some.run'.groups in
    let o = s.octets in
    let done = it.next - c.args.first in
    let few : o ≤ 48 = omega (arith, few_octets (limits_of g.met.K.GroupKind.lawful s), s.octets_are) in
    let room = room_for c.args.first done n c.args.count o few step.some (omega (arith, inv.before, inv.rest, step.left)) c.requires.small in
    omega (arith, room.split, room.small)

pub overflow_add-end : goal.overflow_add-end
overflow_add-end g c =
    let s = c.args.self.now in
    let it = c.loop-run.run-iterator in
    let inv = c.loop-run.invariant.2 in
    let step = c.in-Some.ensures.steps in
    let n = c.in-Some.run'.groups in
    let o = s.octets in
    let done = it.next - c.args.first in
    let few : o ≤ 48 = omega (arith, few_octets (limits_of g.met.K.GroupKind.lawful s), s.octets_are) in
    let room = room_for c.args.first done n c.args.count o few step.some (omega (arith, inv.before, inv.rest, step.left)) c.requires.small in
    omega (arith, inv.start, room.split, room.small)

pub slice_bounds-write-end : goal.slice_bounds-write-end
slice_bounds-write-end g c =
    let s = c.args.self.now in
    let it = c.loop-run.run-iterator in
    let inv = c.loop-run.invariant.2 in
    let step = c.in-Some.ensures.steps in
    let n = c.in-Some.run'.groups in
    let o = s.octets in
    let done = it.next - c.args.first in
    let few : o ≤ 48 = omega (arith, few_octets (limits_of g.met.K.GroupKind.lawful s), s.octets_are) in
    let room = room_for c.args.first done n c.args.count o few step.some (omega (arith, inv.before, inv.rest, step.left)) c.requires.small in
    let end : c.loop-run.start + n * o ≤ length c.loop-run.out = omega (arith, inv.start, room.end, c.loop-run.auto.out, c.requires.room) in
    search rules

pub loop-run-preserved : goal.loop-run-preserved
loop-run-preserved g c =
    let s = c.args.self.now in
    let it = c.loop-run.run-iterator in
    let inv = c.loop-run.invariant.2 in
    let step = c.in-Some.ensures.steps in
    let n = c.in-Some.run'.groups in
    let o = s.octets in
    let done = it.next - c.args.first in
    let few : o ≤ 48 = omega (arith, few_octets (limits_of g.met.K.GroupKind.lawful s), s.octets_are) in
    let room = room_for c.args.first done n c.args.count o few step.some (omega (arith, inv.before, inv.rest, step.left)) c.requires.small in
    let end : c.loop-run.start + n * o ≤ length c.loop-run.out = omega (arith, inv.start, room.end, c.loop-run.auto.out, c.requires.room) in
    let t = part_of g.K.GroupKind.kind s.part.now in
    let v = g.S.Store.picture s.store.now in
    let f : ℕ → List ℕ = group_octets t v in
    let r = c.in-Some.run' in
    let first = c.args.first in
    let ys = c.write.new.out in
    let k = c.loop-run.start + n * o - c.loop-run.start in
    let from : r.source ≡ s = step.source ∙ inv.source in
    let on : c.next.new.self.next - first ≡ done + n = omega (arith, step.next, inv.before) in
    let begins : r.unit_row * s.row_groups + r.place ≡ it.next = ap (λ x. r.unit_row * x.row_groups + r.place) (sym inv.source) ∙ step.first in
    let there : it.next ≡ first + done = omega (arith, inv.before) in
    let is : ys ≡ concat_map f (range_with_len (first + done) n) =
    c.write.ensures
    ∙ ap (λ x. concat_map (group_octets (part_of g.K.GroupKind.kind x.part.now) (g.S.Store.picture x.store.now))
    (range_with_len (r.unit_row * x.row_groups + r.place) n)) from
    ∙ ap (λ x. concat_map f (range_with_len x n)) (begins ∙ there) in (
      tt,
      tt,
      record {
        source = step.kept ∙ inv.source;
        before = omega (arith, step.next, inv.before);
        rest = omega (arith, step.next, step.left, inv.rest);
        start = ap (λ x. x + n * o) inv.start ∙ sym room.split ∙ ap (λ x. x * o) (sym on);
        written =
            ap (λ x. take (x + n * o) (put_mid x k c.loop-run.out ys)) inv.start
            ∙ ap (λ x. take x (put_mid (done * o) k c.loop-run.out ys)) (sym room.split)
            ∙ pieces_more f first done n o k c.loop-run.out ys (λ x. length_group_octets t v x ∙ sym s.octets_are)
            (omega (arith, end, inv.start)) is (ap (λ x. take x c.loop-run.out) (sym inv.start) ∙ inv.written)
            ∙ ap (λ x. concat_map f (range_with_len first x)) (sym on);
      },
    )

pub returns : goal.returns
returns g c =
    let s = c.args.self.now in
    let inv = c.loop-run.invariant.2 in
    let done = c.loop-run.run-iterator.next - c.args.first in
    let f : ℕ → List ℕ = group_octets (part_of g.K.GroupKind.kind s.part.now) (g.S.Store.picture s.store.now) in
    let whole : done ≡ c.args.count = omega (arith, inv.before, inv.rest, c.in-None.ensures.steps.0) in
    let all : length c.loop-run.out ≡ c.loop-run.start =
    c.loop-run.auto.out ∙ c.requires.room ∙ ap (λ x. x * s.octets) (sym whole) ∙ sym inv.start in
    sym (take_all c.loop-run.start c.loop-run.out (omega (arith, all)))
    ∙ inv.written
    ∙ ap (λ x. concat_map f (range_with_len c.args.first x)) whole

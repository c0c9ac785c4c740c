use Rattle.std.proofs.Common.{◌≡◌, ◌+◌, ◌*◌, sym, refl, ap, ◌∙◌, mul-le-mul, arith}
use Rattle.formats.specs.Meaning.{part_of}
use Rattle.packets.specs.Carried.{placed}
use Rattle.theory.specs.Formats.{layout_of, row_groups}
use Rattle.theory.specs.Pictures.{fits_part}
use Rattle.receiver.specs.Filling.{start_of}
use Rattle.receiver.proofs.Groups.{all_ahead, group_taken, none_ahead, number_is, segment_begins, segment_puts, segment_passes}
use Rattle.receiver.proofs.Offers.{some_octets, store_fits, map_long}
use Rattle.receiver.proofs.segment.put_segment.Goals as goal

pub loop-i-init : goal.loop-i-init
loop-i-init g c =
    let t = part_of g.K.GroupKind.kind c.args.part.now in
    let v = g.S.Store.picture c.args.store.now in
    let m = c.args.map.now in
    let x = placed c.args.segment in
    let none : 0 ≡ c.into_iter-i-iterator.result.count = cc in
    let all : c.into_iter-i-iterator.result.iter.rest.now ≡ x.octets = cc in
    let size : c.into_iter-i-iterator.result.iter.size ≡ (layout_of t.format).octets = cc in
    record {
      ahead = rw (← none) (all_ahead c.requires.inside (map_long t v m c.requires.ready) (some_octets t v m c.requires.ready) size all);
      so_far = rw (← none) (segment_begins t v m x.octets (start_of t x) (λ i _. (c.type_inv.map i).fits));
      rest = refl;
    }

pub overflow_add-start-in-loop-i : goal.overflow_add-start-in-loop-i
overflow_add-start-in-loop-i g c =
    let s = c.in-Some.ensures.steps in
    let turn = group_taken c.loop-i.invariant.ahead s.0.0 s.0.1 s.1 s.2 in
    omega (arith, turn.same, turn.within, c.requires.inside.in_row, mul-le-mul c.requires.inside.row c.row_groups.ensures.bound)

pub is_set-requires : goal.is_set-requires
is_set-requires g c =
    let s = c.in-Some.ensures.steps in
    let turn = group_taken c.loop-i.invariant.ahead s.0.0 s.0.1 s.1 s.2 in
    let number = number_is (part_of g.K.GroupKind.kind c.args.part.now) (placed c.args.segment) _ _ _ c.row_groups.ensures.value s.1 in
    omega (arith, number, turn.below, c.loop-i.invariant.ahead.mapped)

pub overflow_add-group : goal.overflow_add-group
overflow_add-group g c =
    let s = c.in-Some.ensures.steps in
    let turn = group_taken c.loop-i.invariant.ahead s.0.0 s.0.1 s.1 s.2 in
    omega (arith, turn.same, turn.within)

pub invariant_of-group : goal.invariant_of-group
invariant_of-group g c =
    let s = c.in-Some.ensures.steps in
    let turn = group_taken c.loop-i.invariant.ahead s.0.0 s.0.1 s.1 s.2 in
    let t = part_of g.K.GroupKind.kind c.args.part.now in
    record {
      lawful = some_octets t (g.S.Store.picture c.args.store.now) c.args.map.now c.requires.ready;
      row = c.requires.inside.row;
      inside = omega (arith, turn.same, turn.within);
      small = omega (arith, turn.same, turn.within);
    }

pub put-requires-clause-fits : goal.put-requires-clause-fits
put-requires-clause-fits g c =
    let t = part_of g.K.GroupKind.kind c.args.part.now in
    ap (λ v. fits_part v t) c.loop-i.invariant.so_far.0.picture ∙ store_fits t (g.S.Store.picture c.args.store.now) c.args.map.now c.requires.ready

pub put-requires-clause-whole : goal.put-requires-clause-whole
put-requires-clause-whole g c =
    let s = c.in-Some.ensures.steps in
    let turn = group_taken c.loop-i.invariant.ahead s.0.0 s.0.1 s.1 s.2 in
    turn.whole

pub set-requires : goal.set-requires
set-requires g c =
    let s = c.in-Some.ensures.steps in
    let turn = group_taken c.loop-i.invariant.ahead s.0.0 s.0.1 s.1 s.2 in
    let number = number_is (part_of g.K.GroupKind.kind c.args.part.now) (placed c.args.segment) _ _ _ c.row_groups.ensures.value s.1 in
    omega (arith, number, turn.below, c.loop-i.invariant.ahead.mapped)

pub overflow_add-count : goal.overflow_add-count
overflow_add-count g c =
    let s = c.in-Some.ensures.steps in
    let turn = group_taken c.loop-i.invariant.ahead s.0.0 s.0.1 s.1 s.2 in
    omega (arith, c.loop-i.invariant.so_far.1, turn.within)

pub loop-i-preserved-then-not-is_set : goal.loop-i-preserved-then-not-is_set
loop-i-preserved-then-not-is_set g c =
    let t = part_of g.K.GroupKind.kind c.args.part.now in
    let v = g.S.Store.picture c.args.store.now in
    let m = c.args.map.now in
    let x = placed c.args.segment in
    let s = c.in-Some.ensures.steps in
    let turn = group_taken c.loop-i.invariant.ahead s.0.0 s.0.1 s.1 s.2 in
    let w = c.loop-i.invariant in
    let i = c.loop-i.i-iterator.count in
    let same : x.unit_row * row_groups t.format + (x.first_group + c.in-Some.i) ≡ start_of t x + i = omega (arith, s.1) in
    record {
      ahead = turn.next;
      so_far = rw s.2 (segment_puts t v m x.octets (start_of t x) i (g.S.Store.picture c.loop-i.store) c.loop-i.map c.loop-i.count _
          w.so_far (number_is t x _ _ _ c.row_groups.ensures.value s.1) turn.below w.ahead.mapped _ (g.S.Store.picture c.put.new.store) c.set.new.map
          c.in-Some.octets.now same (sym c.is_set.ensures ∙ c.if-not-is_set.true) turn.piece c.put.ensures.picture c.set.ensures);
      rest = c.put.ensures.rest ∙ w.rest;
    }

pub loop-i-preserved : goal.loop-i-preserved
loop-i-preserved g c =
    let t = part_of g.K.GroupKind.kind c.args.part.now in
    let v = g.S.Store.picture c.args.store.now in
    let m = c.args.map.now in
    let x = placed c.args.segment in
    let s = c.in-Some.ensures.steps in
    let turn = group_taken c.loop-i.invariant.ahead s.0.0 s.0.1 s.1 s.2 in
    let w = c.loop-i.invariant in
    record {
      ahead = turn.next;
      so_far = rw s.2 (segment_passes t v m x.octets (start_of t x) c.loop-i.i-iterator.count (g.S.Store.picture c.loop-i.store) c.loop-i.map c.loop-i.count _
          w.so_far (number_is t x _ _ _ c.row_groups.ensures.value s.1) turn.below w.ahead.mapped (sym c.is_set.ensures ∙ c.if-not-is_set.false));
      rest = w.rest;
    }

pub returns : goal.returns
returns g c =
    let w = c.loop-i.invariant in
    let last = none_ahead w.ahead c.in-None.ensures.steps.0.1.0 in
    let all = rw last at w.so_far in
    record {
      put = all.0;
      few = omega (arith, all.1, c.requires.inside.in_row, c.row_groups.ensures.value, c.row_groups.ensures.bound);
      rest = w.rest;
    }

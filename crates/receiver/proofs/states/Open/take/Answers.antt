use Rattle.std.proofs.Common.{◌≡◌, ◌+◌, [], ◌∷◌, ◌++◌, length, Ok, sym, refl, ap, ◌∙◌, subst, arith, length-append}
use Rattle.packets.specs.Carried.{carries, placed}
use Rattle.packets.specs.Reading.{carried}
use Rattle.packets.specs.Segments.{segments_left, segments_of}
use Rattle.theory.specs.Answers.{answer, is_none}
use Rattle.theory.specs.Packets.{headers}
use Rattle.theory.specs.Pictures.{fits_part}
use Rattle.theory.specs.Taking.{set_count, survey_refusal}
use Rattle.receiver.specs.Opening.{part_open}
use Rattle.receiver.proofs.Checks.{handed_on, kept_on, passes}
use Rattle.receiver.proofs.Offers.{check_refuses, ready_still, map_long, reader_refuses, reader_takes}
use Rattle.receiver.proofs.Segments.{HandedOut, PacketSoFar, packet_begins, few_headers, one_handed_out, none_left, segment_fits, packet_takes, packet_ends}
use Rattle.receiver.proofs.states.Open.take.Goals as goal

pub returns-in_err-check : goal.returns-in_err-check
returns-in_err-check g c =
    let t = part_open g.K.GroupKind.kind c.args.self.now in
    let v = g.S.Store.picture c.args.store.now in
    let r = check_refuses t v c.args.map.now c.args.packet.now _ c.check.ensures.octets c.in_err-check.ensures.answer in
    record {
      answer = handed_on _ _ c.from_residual.result c.from_residual.ensures.1 r.0;
      picture = r.1;
      map = r.2;
      rest = refl;
      kept = kept_on _ c.from_residual.result c.from_residual.ensures.1 (refl, refl);
    }

pub returns-in_err-packet : goal.returns-in_err-packet
returns-in_err-packet g c =
    let t = part_open g.K.GroupKind.kind c.args.self.now in
    let v = g.S.Store.picture c.args.store.now in
    let m = c.args.map.now in
    let q = c.args.packet.now in
    let ready = passes (survey_refusal t v m) c.in_ok-check.ensures.answer in
    let r = reader_refuses t v m ready q _ c.check.ensures.octets c.in_err-packet.ensures.answer in
    record {
      answer = handed_on _ _ c.from_residual-in_err-packet.result c.from_residual-in_err-packet.ensures.1 r.0;
      picture = r.1;
      map = r.2;
      rest = refl;
      kept = kept_on _ c.from_residual-in_err-packet.result c.from_residual-in_err-packet.ensures.1 (refl, refl);
    }

pub loop-segment-init : goal.loop-segment-init
loop-segment-init g c =
    let t = part_open g.K.GroupKind.kind c.args.self.now in
    let v = g.S.Store.picture c.args.store.now in
    let m = c.args.map.now in
    let q = c.args.packet.now in
    let ready = passes (survey_refusal t v m) c.in_ok-check.ensures.answer in
    let same = (reader_takes t v m ready q (carries c.in_ok-packet.packet) c.in_ok-packet.ensures.answer).1 in
    let first = ap segments_left c.into_iter-segment-iterator.ensures.into_iter_gives ∙ c.iter-segment-items.ensures ∙ ap segments_of same in
    record {
      out = record { few = omega arith; those = first };
      so_far = packet_begins t v m q c.check.ensures.octets;
      rest = refl;
    }

pub put_segment-count-requires-clause-ready : goal.put_segment-count-requires-clause-ready
put_segment-count-requires-clause-ready g c =
    let t = part_open g.K.GroupKind.kind c.args.self.now in
    let v = g.S.Store.picture c.args.store.now in
    let m = c.args.map.now in
    let q = c.args.packet.now in
    let ready = passes (survey_refusal t v m) c.in_ok-check.ensures.answer in
    let w = c.loop-segment.invariant in
    ready_still t v m ready (g.S.Store.picture c.loop-segment.store) c.loop-segment.map (ap (λ y. fits_part y t) w.so_far.0.picture) c.loop-segment.auto.map

pub put_segment-count-requires-clause-inside : goal.put_segment-count-requires-clause-inside
put_segment-count-requires-clause-inside g c =
    let t = part_open g.K.GroupKind.kind c.args.self.now in
    let q = c.args.packet.now in
    let next = one_handed_out (carried t q) _ (placed c.in-Some.segment) _ _ c.loop-segment.invariant.out c.in-Some.ensures.steps in
    segment_fits t q (c.in_ok-packet.ensures.sound refl) _ next.0 (placed c.in-Some.segment) next.1

pub overflow_add-count : goal.overflow_add-count
overflow_add-count g c =
    let w = c.loop-segment.invariant in
    omega (arith, w.so_far.1, w.out.few, few_headers c.args.packet.now, c.put_segment-count.ensures.few)

pub loop-segment-preserved : goal.loop-segment-preserved
loop-segment-preserved g c =
    let t = part_open g.K.GroupKind.kind c.args.self.now in
    let v = g.S.Store.picture c.args.store.now in
    let m = c.args.map.now in
    let q = c.args.packet.now in
    let ready = passes (survey_refusal t v m) c.in_ok-check.ensures.answer in
    let w = c.loop-segment.invariant in
    let x = placed c.in-Some.segment in
    let next = one_handed_out (carried t q) _ x _ _ w.out c.in-Some.ensures.steps in
    let put = c.put_segment-count in
    let more : length c.loop-segment.yielded + 1 ≡ length (c.loop-segment.yielded ++ c.in-Some.segment ∷ []) =
    sym (length-append c.loop-segment.yielded (c.in-Some.segment ∷ [])) in
    record {
      out = subst (λ i. HandedOut (carried t q) i (segments_left c.next.new.self)) more next.2;
      so_far = subst (λ i. PacketSoFar t v m q i (g.S.Store.picture put.new.store) put.new.map (c.loop-segment.count + put.result)) more
          (packet_takes t q (c.in_ok-packet.ensures.sound refl) _ next.0 x next.1 v m (map_long t v m ready) (g.S.Store.picture c.loop-segment.store)
          c.loop-segment.map c.loop-segment.count w.so_far (g.S.Store.picture put.new.store) put.new.map put.result put.ensures.put put.ensures.few);
      rest = put.ensures.rest ∙ w.rest;
    }

pub returns : goal.returns
returns g c =
    let t = part_open g.K.GroupKind.kind c.args.self.now in
    let v = g.S.Store.picture c.args.store.now in
    let m = c.args.map.now in
    let q = c.args.packet.now in
    let ready = passes (survey_refusal t v m) c.in_ok-check.ensures.answer in
    let w = c.loop-segment.invariant in
    let taken = (reader_takes t v m ready q (carries c.in_ok-packet.packet) c.in_ok-packet.ensures.answer).0 in
    let last : length c.loop-segment.yielded ≡ headers q = none_left (carried t q) _ _ w.out c.in-None.ensures.steps.0 in
    let ends = packet_ends t v m q (ap is_none taken) (g.S.Store.picture c.loop-segment.store) c.loop-segment.map c.loop-segment.count
    (subst (λ i. PacketSoFar t v m q i (g.S.Store.picture c.loop-segment.store) c.loop-segment.map c.loop-segment.count) last w.so_far) in
    record {
      answer = ap Ok ends.2 ∙ sym (ap (λ o. answer o (set_count t v m q)) taken);
      picture = ends.0;
      map = ends.1;
      rest = w.rest;
      kept = tt;
    }

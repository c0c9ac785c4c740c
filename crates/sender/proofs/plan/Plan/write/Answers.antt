use Rattle.std.proofs.Common.{◌≡◌, ◌*◌, ◌/◌, ◌++◌, ap, ◌∙◌, inl, inr, arith}
use Rattle.std.specs.List.{range_with_len}
use Rattle.formats.specs.Meaning.{part_of}
use Rattle.theory.specs.Octets.{octets16}
use Rattle.theory.specs.Formats.{layout_of}
use Rattle.theory.specs.Groups.{group_octets}
use Rattle.theory.specs.Cutting.{cut, cut_groups, rtp_header, srd_headers, concat_map}
use Rattle.sender.specs.Cuts.{segments_left}
use Rattle.sender.proofs.Cuts.{near_or_none}
use Rattle.sender.proofs.Packets.{packet_length, packet_parts}
use Rattle.sender.proofs.Sizes.{limits_of}
use Rattle.sender.proofs.Wholes.{none_follows}
use Rattle.sender.proofs.plan.Plan.write.Goals as goal

pub split_at_mut-headers-requires : goal.split_at_mut-headers-requires
split_at_mut-headers-requires g c =
    let p = c.args.self.now in
    let s = p.source in
    let w = limits_of g.met.K.GroupKind.lawful s in
    let long = packet_length w (g.S.Store.picture s.store.now) c.args.sequence p.first in
    omega (arith, c.requires ∙ long, c.start-start.ensures, p.segments_are)

pub write_groups-requires-clause-small : goal.write_groups-requires-clause-small
write_groups-requires-clause-small g c i h =
    let p = c.args.self.now in
    let w = limits_of g.met.K.GroupKind.lawful p.source in
    elim (near_or_none w p.first) [
      | inl e ↦ absurd (omega (arith, p.groups_are))
      | inr near ↦ omega (arith, p.groups_are)
    ]

pub write_groups-requires-clause-room : goal.write_groups-requires-clause-room
write_groups-requires-clause-room g c =
    let p = c.args.self.now in
    let s = p.source in
    let t = part_of g.K.GroupKind.kind s.part.now in
    let w = limits_of g.met.K.GroupKind.lawful s in
    let long = packet_length w (g.S.Store.picture s.store.now) c.args.sequence p.first in
    let octets : p.groups * s.octets ≡ cut_groups (cut t p.first) * (layout_of t.format).octets =
    ap (λ x. x * s.octets) p.groups_are ∙ ap (λ x. cut_groups (cut t p.first) * x) s.octets_are in
    omega (arith, c.requires ∙ long, c.start-start.ensures, p.segments_are, c.split_at_mut-headers.ensures.back_len)

pub returns : goal.returns
returns g c =
    let p = c.args.self.now in
    let s = p.source in
    let t = part_of g.K.GroupKind.kind s.part.now in
    let v = g.S.Store.picture s.store.now in
    let w = limits_of g.met.K.GroupKind.lawful s in
    let seq = c.args.sequence in
    packet_parts w v seq p.first c.copy_from_slice.new.self c.write_headers.new.out c.write_groups.new.out
    (c.copy_from_slice.ensures.after ∙ c.packet_header-octets.ensures
    ∙ ap (λ b. rtp_header t seq b ++ octets16 (seq / 65536)) (none_follows t p.first c.is_none.ensures c.next.ensures))
    (c.write_headers.ensures
    ∙ ap (λ q. srd_headers (part_of g.K.GroupKind.kind q) (segments_left c.segments.result)) c.segments.ensures.part
    ∙ ap (srd_headers t) c.segments.ensures.segments)
    (c.write_groups.ensures ∙ ap (λ n. concat_map (group_octets t v) (range_with_len p.first n)) p.groups_are)

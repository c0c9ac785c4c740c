use Rattle.std.proofs.Common.{◌≡◌, ◌≤◌, cond, sym, ◌∙◌, arith}
use Rattle.std.proofs.lemmas.Bool.{cond-true, cond-false}
use Rattle.formats.specs.Meaning.{part_of}
use Rattle.sender.proofs.Sizes.{limits_of}
use Rattle.sender.proofs.Heads.{header_is}
use Rattle.sender.proofs.source.Source.packet_header.Goals as goal
use Rattle.sender.proofs.source.Source.packet_header.Goals.{then-last, else-last}

pub overflow_add-result : goal.overflow_add-result
overflow_add-result g c =
    let s = c.args.self.now in
    let low : c.if-last.marker ≤ 128 = elim c.if-last.branch [
      | then-last x ↦ omega (arith, x.marker-is)
      | else-last x ↦ omega (arith, x.marker-is)
    ] in
    omega (arith, (limits_of g.met.K.GroupKind.lawful s).type_range)

pub returns : goal.returns
returns g c =
    let last = c.args.last in
    let marker : c.if-last.marker ≡ cond last 128 0 = elim c.if-last.branch [
      | then-last x ↦ x.marker-is ∙ sym (cond-true last 128 0 x.if-last.true)
      | else-last x ↦ x.marker-is ∙ sym (cond-false last 128 0 x.if-last.false)
    ] in
    header_is (part_of g.K.GroupKind.kind c.args.self.now.part.now) c.args.sequence c.if-last.marker last
    c.to_be_bytes.result c.to_be_bytes-2.result c.to_be_bytes-3.result
    c.to_be_bytes.ensures c.to_be_bytes-2.ensures c.to_be_bytes-3.ensures marker

use Rattle.std.proofs.Common.{◌≡◌, ◌+◌, ◌*◌, not, ltb, ◌++◌, length, sym, ap, ◌∙◌, arith}
use Rattle.formats.specs.Meaning.{part_of}
use Rattle.theory.specs.Cutting.{srd_header, srd_headers}
use Rattle.sender.specs.Cuts.{segment_of, segments_left}
use Rattle.sender.proofs.Cuts.{head_fits}
use Rattle.sender.proofs.Heads.{more_is}
use Rattle.sender.proofs.Sizes.{limits_of}
use Rattle.sender.proofs.cutting.Segments.+write_headers.Goals as goal

pub segment_header-octets-requires : goal.segment_header-octets-requires
segment_header-octets-requires g t c =
    let a = c.args.self in
    let s = a.source in
    let fit = head_fits (limits_of g.met.K.GroupKind.lawful s) a.header a.most a.space a.first
    c.in-Some.ensures.steps.1 a.small in
    record { inside = fit.0; short = fit.1 }

pub returns-in-Some : goal.returns-in-Some
returns-in-Some g t c =
    let p = part_of g.K.GroupKind.kind c.args.self.source.part.now in
    let x = segment_of c.in-Some.segment in
    let ss = segments_left c.next.new.self in
    let all : length c.args.out.now ≡ 6 * (length ss + 1) = c.requires ∙ ap (λ xs. 6 * length xs) c.in-Some.ensures.steps.1 ∙ omega arith in
    let more : not c.is_empty.result ≡ ltb 0 (length ss) =
    ap not c.is_empty.ensures ∙ more_is (length ss) _ (omega (arith, c.split_at_mut-header.ensures.back_len)) in
    ap (λ h. h ++ c.write_headers.new.out)
    (c.copy_from_slice.ensures.after ∙ c.segment_header-octets.ensures ∙ ap (srd_header p x) more)
    ∙ ap (λ r. srd_header p x (ltb 0 (length ss)) ++ r)
    (c.write_headers.ensures ∙ ap (λ s. srd_headers (part_of g.K.GroupKind.kind s.part.now) ss) c.in-Some.ensures.steps.0)
    ∙ ap (srd_headers p) (sym c.in-Some.ensures.steps.1)

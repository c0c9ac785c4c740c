use Rattle.std.proofs.Common.{◌≡◌, ◌<◌, ◌≤◌, true, length, drop, Some, sym, ap, ◌∙◌, subst, ◌++◌}
use Rattle.std.proofs.lemmas.Result.{err_from_is_err_and}
use Rattle.std.proofs.lemmas.List.{length-take-le}
use Rattle.refusals.specs.Numbers.{number_of}
use Rattle.formats.specs.Meaning.{part_of}
use Rattle.theory.specs.Formats.{lawful_format}
use Rattle.theory.specs.Pictures.{fits_part}
use Rattle.theory.specs.Cutting.{packet}
use Rattle.sender.specs.Plans.{Drew, following}
use Rattle.sender.proofs.Outcomes.{refused_source, buffer_short, allowed, buffer_kept, buffer_written, written_as}
use Rattle.sender.proofs.sending.Sending.draw.Goals as goal

pub returns-in_err-source : goal.returns-in_err-source
returns-in_err-source g c =
    let s = c.args.self.now in
    let t = part_of g.K.GroupKind.kind s.part in
    let v = g.S.Store.picture c.args.store.now in
    let b = c.args.buffer.now in
    let p = err_from_is_err_and c.from_residual.result c.from_residual.ensures.1 in
    let row = refused_source t v s.sequence s.group (length b) c.in_err-source.ensures in
    record {
      answer = subst (Drew t v s.sequence s.group (length b)) (sym p.1) (row ∙ ap Some (sym (ap number_of p.2)));
      buffer = buffer_kept t v s.sequence s.group b row;
    }

pub returns-then-buffer-octets : goal.returns-then-buffer-octets
returns-then-buffer-octets g c =
    let s = c.args.self.now in
    let kind = g.K.GroupKind.kind in
    let t = part_of kind s.part in
    let v = g.S.Store.picture c.args.store.now in
    let b = c.args.buffer.now in
    let x = c.in_ok-source.source in
    let same = c.in_ok-source.ensures in
    let lawful : lawful_format t.format ≡ true = subst (λ p. lawful_format (part_of kind p).format ≡ true) same.0 x.tested.format_allowed in
    let fit : fits_part v t ≡ true =
    subst (λ p. fits_part v (part_of kind p) ≡ true) same.0
    (subst (λ y. fits_part (g.S.Store.picture y) (part_of kind x.part.now) ≡ true) same.1 x.fits) in
    let long : c.octets-octets.result ≡ length (packet t v s.sequence s.group) =
    c.octets-octets.ensures v s.sequence
    ∙ ap (λ y. length (packet (part_of kind y.part.now) v s.sequence c.at-plan.result.first)) c.at-plan.ensures.source
    ∙ ap (λ p. length (packet (part_of kind p) v s.sequence c.at-plan.result.first)) same.0
    ∙ ap (λ n. length (packet t v s.sequence n)) c.at-plan.ensures.first in
    let row = buffer_short t v s.sequence s.group (length b) lawful fit (subst (λ n. length b < n) long c.if-buffer-octets.true) in
    record { answer = row; buffer = buffer_kept t v s.sequence s.group b row }

pub write-requires : goal.write-requires
write-requires g c =
    let p = c.at-plan.result in
    length-take-le _ c.args.buffer.now c.if-buffer-octets.false
    ∙ c.octets-octets.ensures (g.S.Store.picture p.source.store.now) c.args.self.now.sequence

pub returns : goal.returns
returns g c =
    let s = c.args.self.now in
    let kind = g.K.GroupKind.kind in
    let t = part_of kind s.part in
    let v = g.S.Store.picture c.args.store.now in
    let b = c.args.buffer.now in
    let x = c.in_ok-source.source in
    let same = c.in_ok-source.ensures in
    let f = c.at-plan.result.first in
    let lawful : lawful_format t.format ≡ true = subst (λ p. lawful_format (part_of kind p).format ≡ true) same.0 x.tested.format_allowed in
    let fit : fits_part v t ≡ true =
    subst (λ p. fits_part v (part_of kind p) ≡ true) same.0
    (subst (λ y. fits_part (g.S.Store.picture y) (part_of kind x.part.now) ≡ true) same.1 x.fits) in
    let long : c.octets-octets.result ≡ length (packet t v s.sequence s.group) =
    c.octets-octets.ensures v s.sequence
    ∙ ap (λ y. length (packet (part_of kind y.part.now) v s.sequence f)) c.at-plan.ensures.source
    ∙ ap (λ p. length (packet (part_of kind p) v s.sequence f)) same.0
    ∙ ap (λ n. length (packet t v s.sequence n)) c.at-plan.ensures.first in
    let none = allowed t v s.sequence s.group (length b) lawful fit (subst (λ n. n ≤ length b) long c.if-buffer-octets.false) in
    let next : c.next.result ≡ following t s.group =
    c.next.ensures
    ∙ ap (λ y. following (part_of kind y.part.now) f) c.at-plan.ensures.source
    ∙ ap (λ p. following (part_of kind p) f) same.0
    ∙ ap (following t) c.at-plan.ensures.first in
    let out : c.write.new.out ≡ packet t v s.sequence s.group =
    c.write.ensures
    ∙ ap (λ y. packet (part_of kind y.part.now) (g.S.Store.picture y.store.now) s.sequence f) c.at-plan.ensures.source
    ∙ ap (λ y. packet (part_of kind x.part.now) (g.S.Store.picture y) s.sequence f) same.1
    ∙ ap (λ p. packet (part_of kind p) v s.sequence f) same.0
    ∙ ap (packet t v s.sequence) c.at-plan.ensures.first in
    record {
      answer = (none, written_as t v s.sequence s.group long next);
      buffer = ap (λ q. q ++ drop c.octets-octets.result b) out
          ∙ ap (λ n. packet t v s.sequence s.group ++ drop n b) long
          ∙ buffer_written t v s.sequence s.group b none;
    }

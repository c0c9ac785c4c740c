use Rattle.std.proofs.Common.{Some, sym, ◌∙◌}
use Rattle.fmtp.specs.Decimals.{rate_of}
use Rattle.fmtp.specs.Parameters.{size_of, max_udp_of, aspect_of}
use Rattle.fmtp.specs.Spellings.{spelled}
use Rattle.fmtp.specs.Values.{sampling_text, samplings, depth_text, depths, colorimetry_text, colorimetries, packing_text, packings, edition_text, editions, transfer_text, transfers, range_text, ranges}
use Rattle.fmtp.proofs.Steps.{gives, goes_on, ends}
use Rattle.fmtp.proofs.reader.record_from.Goals as goal

pub returns-in_err-and_then-7 : goal.returns-in_err-and_then-7
returns-in_err-and_then-7 c =
    c.from_residual-in_err-and_then-7.ensures ∙ sym (
    goes_on _ (gives (spelled sampling_text samplings) c.value_of.result c.and_then.result c.value_of.ensures c.and_then.ensures (λ x p. p)) c.in_ok-and_then.was (
    goes_on _ (gives (spelled depth_text depths) c.value_of-2.result c.and_then-2.result c.value_of-2.ensures c.and_then-2.ensures (λ x p. p)) c.in_ok-and_then-2.was (
    goes_on _ (gives size_of c.value_of-3.result c.and_then-3.result c.value_of-3.ensures c.and_then-3.ensures (λ x p. p)) c.in_ok-and_then-3.was (
    goes_on _ (gives size_of c.value_of-4.result c.and_then-4.result c.value_of-4.ensures c.and_then-4.ensures (λ x p. p)) c.in_ok-and_then-4.was (
    goes_on _ (gives rate_of c.value_of-5.result c.and_then-5.result c.value_of-5.ensures c.and_then-5.ensures (λ x p. p)) c.in_ok-and_then-5.was (
    goes_on _ (gives (spelled colorimetry_text colorimetries) c.value_of-6.result c.and_then-6.result c.value_of-6.ensures c.and_then-6.ensures (λ x p. p)) c.in_ok-and_then-6.was (
    ends _ (gives (spelled packing_text packings) c.value_of-7.result c.and_then-7.result c.value_of-7.ensures c.and_then-7.ensures (λ x p. p)) c.in_err-and_then-7.was
    )))))))

pub returns-in_err-and_then-8 : goal.returns-in_err-and_then-8
returns-in_err-and_then-8 c =
    c.from_residual-in_err-and_then-8.ensures ∙ sym (
    goes_on _ (gives (spelled sampling_text samplings) c.value_of.result c.and_then.result c.value_of.ensures c.and_then.ensures (λ x p. p)) c.in_ok-and_then.was (
    goes_on _ (gives (spelled depth_text depths) c.value_of-2.result c.and_then-2.result c.value_of-2.ensures c.and_then-2.ensures (λ x p. p)) c.in_ok-and_then-2.was (
    goes_on _ (gives size_of c.value_of-3.result c.and_then-3.result c.value_of-3.ensures c.and_then-3.ensures (λ x p. p)) c.in_ok-and_then-3.was (
    goes_on _ (gives size_of c.value_of-4.result c.and_then-4.result c.value_of-4.ensures c.and_then-4.ensures (λ x p. p)) c.in_ok-and_then-4.was (
    goes_on _ (gives rate_of c.value_of-5.result c.and_then-5.result c.value_of-5.ensures c.and_then-5.ensures (λ x p. p)) c.in_ok-and_then-5.was (
    goes_on _ (gives (spelled colorimetry_text colorimetries) c.value_of-6.result c.and_then-6.result c.value_of-6.ensures c.and_then-6.ensures (λ x p. p)) c.in_ok-and_then-6.was (
    goes_on _ (gives (spelled packing_text packings) c.value_of-7.result c.and_then-7.result c.value_of-7.ensures c.and_then-7.ensures (λ x p. p)) c.in_ok-and_then-7.was (
    ends _ (gives (spelled edition_text editions) c.value_of-8.result c.and_then-8.result c.value_of-8.ensures c.and_then-8.ensures (λ x p. p)) c.in_err-and_then-8.was
    ))))))))

pub returns : goal.returns
returns c =
    let interlace = c.has.ensures in
    let segmented = c.has-2.ensures in
    let transfer = gives (spelled transfer_text transfers) c.value_of-9.result c.and_then-9.result c.value_of-9.ensures c.and_then-9.ensures (λ x p. p) in
    let range = gives (spelled range_text ranges) c.value_of-10.result c.and_then-10.result c.value_of-10.ensures c.and_then-10.ensures (λ x p. p) in
    let max_udp = gives max_udp_of c.value_of-11.result c.and_then-11.result c.value_of-11.ensures c.and_then-11.ensures (λ x p. p) in
    let pixel_aspect = gives aspect_of c.value_of-12.result c.and_then-12.result c.value_of-12.ensures c.and_then-12.ensures (λ x p. p) in
    sym (
    goes_on _ (gives (spelled sampling_text samplings) c.value_of.result c.and_then.result c.value_of.ensures c.and_then.ensures (λ x p. p)) c.in_ok-and_then.was (
    goes_on _ (gives (spelled depth_text depths) c.value_of-2.result c.and_then-2.result c.value_of-2.ensures c.and_then-2.ensures (λ x p. p)) c.in_ok-and_then-2.was (
    goes_on _ (gives size_of c.value_of-3.result c.and_then-3.result c.value_of-3.ensures c.and_then-3.ensures (λ x p. p)) c.in_ok-and_then-3.was (
    goes_on _ (gives size_of c.value_of-4.result c.and_then-4.result c.value_of-4.ensures c.and_then-4.ensures (λ x p. p)) c.in_ok-and_then-4.was (
    goes_on _ (gives rate_of c.value_of-5.result c.and_then-5.result c.value_of-5.ensures c.and_then-5.ensures (λ x p. p)) c.in_ok-and_then-5.was (
    goes_on _ (gives (spelled colorimetry_text colorimetries) c.value_of-6.result c.and_then-6.result c.value_of-6.ensures c.and_then-6.ensures (λ x p. p)) c.in_ok-and_then-6.was (
    goes_on _ (gives (spelled packing_text packings) c.value_of-7.result c.and_then-7.result c.value_of-7.ensures c.and_then-7.ensures (λ x p. p)) c.in_ok-and_then-7.was (
    goes_on _ (gives (spelled edition_text editions) c.value_of-8.result c.and_then-8.result c.value_of-8.ensures c.and_then-8.ensures (λ x p. p)) c.in_ok-and_then-8.was (
    λ i. Some (record {
      sampling = c.in_ok-and_then.field-0;
      depth = c.in_ok-and_then-2.field-0;
      width = c.in_ok-and_then-3.field-0;
      height = c.in_ok-and_then-4.field-0;
      frame_rate = c.in_ok-and_then-5.field-0;
      colorimetry = c.in_ok-and_then-6.field-0;
      packing = c.in_ok-and_then-7.field-0;
      edition = c.in_ok-and_then-8.field-0;
      interlace = sym interlace i;
      segmented = sym segmented i;
      transfer = sym transfer i;
      range = sym range i;
      max_udp = sym max_udp i;
      pixel_aspect = sym pixel_aspect i;
    }))))))))))

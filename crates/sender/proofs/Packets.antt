-- How long a packet is, and its three parts.
use Rattle.std.proofs.Common.{◌≡◌, ℕ, ◌+◌, ◌*◌, ◌/◌, List, ◌++◌, length, sym, ◌∙◌, arith}
use Rattle.std.specs.List.{range_with_len}
use Rattle.std.proofs.lemmas.List.{length-append}
use Rattle.theory.specs.Octets.{octets16}
use Rattle.theory.specs.Formats.{Part, layout_of}
use Rattle.theory.specs.Pictures.{Picture}
use Rattle.theory.specs.Groups.{group_octets}
use Rattle.theory.specs.Cutting.{Segment, cut, cut_groups, is_last, rtp_header, srd_headers, concat_map, segments_data, packet}
use Rattle.theory.proofs.Contents.{data_of_chain, length_data}
use Rattle.theory.proofs.Limits.{Limits}
use Rattle.sender.proofs.Cuts.{cut_short}
use Rattle.sender.proofs.Heads.{length_headers}

module _ {t : Part} (w : Limits t) (v : Picture) (seq g : ℕ) where
  pub packet_length : length (packet t v seq g) ≡ 14 + 6 * length (cut t g) + cut_groups (cut t g) * (layout_of t.format).octets
  packet_length =
      let ss : List Segment = cut t g in
      let head : List ℕ = rtp_header t seq (is_last t g) ++ octets16 (seq / 65536) in
      length-append (head ++ srd_headers t ss) (segments_data t v ss)
      ∙ omega (
        arith,
        length-append head (srd_headers t ss),
        length_headers t ss,
        length_data t v g ss (cut_short w g).chain,
      )

  pub packet_parts : (xs ys zs : List ℕ) → xs ≡ rtp_header t seq (is_last t g) ++ octets16 (seq / 65536) → ys ≡ srd_headers t (cut t g)
      → zs ≡ concat_map (group_octets t v) (range_with_len g (cut_groups (cut t g))) → (xs ++ ys) ++ zs ≡ packet t v seq g
  packet_parts xs ys zs ex ey ez =
      let ss : List Segment = cut t g in
      let body : zs ≡ segments_data t v ss = ez ∙ sym (data_of_chain t v g ss (cut_short w g).chain) in
      cc

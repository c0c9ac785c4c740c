-- A packet that a sender writes: it is not refused, and names its groups, with the octets and the samples of the picture.
use Rattle.std.proofs.Common.{◌≡◌, ℕ, ◌*◌, ◌/◌, ◌%◌, ◌^◌, ◌<◌, ◌≤◌, Bool, true, ◌&&◌, ltb, leb, List, [], ◌∷◌, length, None, sym, refl, ap, ◌∙◌, not-suc-le-zero, mul-le-mul_right, arith}
use Rattle.std.proofs.lemmas.Bool.{leb-false, and_parts, leb-true, ltb-true}
use Rattle.theory.specs.Answers.{first_row, is_none}
use Rattle.theory.specs.Formats.{Part, layout_of, groups, lawful_format}
use Rattle.theory.specs.Pictures.{Picture, LawfulPicture, inside, fits_part}
use Rattle.theory.specs.Groups.{group_octets, group_of}
use Rattle.theory.specs.Packets.{packet_rows}
use Rattle.theory.specs.Taking.{names, octets_of, reads}
use Rattle.theory.specs.Cutting.{Segment, cut, cut_groups, after_packet, is_last, segments_data, packet}
use Rattle.theory.specs.Wholes.{Carries}
use Rattle.theory.proofs.Framing.{two_octets, seg, SegmentFits, PartFits, Reads, framed, reads_one, reads_two, reads_three}
use Rattle.theory.proofs.Limits.{Limits}
use Rattle.theory.proofs.Chains.{before_le, link, link_fits}
use Rattle.theory.proofs.Contents.{length_data, names_are, octets_are}
use Rattle.theory.proofs.Refusals.{Packed, no_row, not_refused}
use Rattle.theory.proofs.Cuts.{cut_good}
use Rattle.theory.proofs.Places.{reads_back}

-- each segment of a packet meets the limits
segment_fits : (t : Part) → Limits t → (last : Bool) (g : ℕ) (ss : List Segment) (body : List ℕ) → Packed t last g ss body → (i : ℕ)
    → i < length ss → SegmentFits t (seg ss i)
segment_fits t w last g ss body k i l =
    let o : ℕ = (layout_of t.format).octets in
    let le : (seg ss i).count * o ≤ cut_groups ss * o = mul-le-mul_right o (omega (arith, before_le ss i l)) in
    link_fits t w g ss i (link t g ss i k.chain l) (omega (arith, k.short))

reads_chain : (t : Part) → Limits t → PartFits t → (seq : ℕ) (last : Bool) (g : ℕ) (ss : List Segment) (body : List ℕ)
    → Packed t last g ss body → Reads t (framed t seq last ss body) last ss body
reads_chain t w p seq last g [] body k = absurd (not-suc-le-zero k.some)
reads_chain t w p seq last g (a ∷ []) body k = reads_one t seq last a body p (segment_fits t w last g (a ∷ []) body k 0 (omega arith))
reads_chain t w p seq last g (a ∷ b ∷ []) body k =
    let f = segment_fits t w last g (a ∷ b ∷ []) body k in
    reads_two t seq last a b body p (f 0 (omega arith)) (f 1 (omega arith))
reads_chain t w p seq last g (a ∷ b ∷ c ∷ []) body k =
    let f = segment_fits t w last g (a ∷ b ∷ c ∷ []) body k in
    reads_three t seq last a b c body p (f 0 (omega arith)) (f 1 (omega arith)) (f 2 (omega arith))
reads_chain t w p seq last g (a ∷ b ∷ c ∷ d ∷ ss) body k = absurd (not-suc-le-zero {n = length ss} (omega (arith, k.few)))

-- the part's numbers
pub part_fits : (t : Part) → Limits t → t.format.ssrc < 2 ^ 32 → t.timestamp < 2 ^ 32 → PartFits t
part_fits t w s c = record { type_small = omega (arith, w.type_range.1); ssrc_small = s; time_small = c; field_small = w.field_small }

module _ (t : Part) (w : Limits t) (p : PartFits t) (v : Picture) (seq g : ℕ) (start : g < groups t) where
  pub packed : Packed t (is_last t g) g (cut t g) (segments_data t v (cut t g))
  packed =
      let c = cut_good t w g start in
      record {
        chain = c.chain;
        some = c.some;
        few = c.few;
        short = c.short;
        body_length = length_data t v g (cut t g) c.chain;
        blocks = λ mode last. c.blocks mode (leb-false (groups t) (after_packet t g) last);
      }

  pub packet_reads : Reads t (packet t v seq g) (is_last t g) (cut t g) (segments_data t v (cut t g))
  packet_reads = reads_chain t w p seq (is_last t g) g (cut t g) (segments_data t v (cut t g)) packed

  -- A: no row of the table holds of it
  pub packet_taken : first_row (packet_rows t (packet t v seq g)) ≡ None
  packet_taken = no_row t w (packet t v seq g) (is_last t g) g (cut t g) (segments_data t v (cut t g)) packed packet_reads

  -- B: it names just the groups from g to the next packet's
  pub packet_names : (h : ℕ) → names t (packet t v seq g) h ≡ (leb g h && ltb h (after_packet t g))
  packet_names h = names_are t w (packet t v seq g) (is_last t g) g (cut t g) (segments_data t v (cut t g)) packed.chain packet_reads h

  pub named_run : (h : ℕ) → names t (packet t v seq g) h ≡ true → (g ≤ h) × (h < after_packet t g)
  named_run h n =
      let b = and_parts (leb g h) (ltb h (after_packet t g)) (sym (packet_names h) ∙ n) in
      (leb-true g h b.0, ltb-true h (after_packet t g) b.1)

  -- C: with the picture's octets
  pub packet_octets : (h : ℕ) → g ≤ h → h < after_packet t g → octets_of t (packet t v seq g) h ≡ group_octets t v h
  packet_octets h l u =
      octets_are t w (packet t v seq g) (is_last t g) g (cut t g) (segments_data t v (cut t g)) packed.chain packet_reads v h refl l u

  -- D: and the picture's samples
  pub packet_samples : LawfulPicture v → fits_part v t ≡ true → (q r c : ℕ) → inside v q r c ≡ true → g ≤ group_of t q r c
      → group_of t q r c < after_packet t g
      → reads t (packet t v seq g) q r c ≡ v.sample q r c
  packet_samples lv fit q r c i l u = reads_back t w.layout v lv fit q r c i (packet t v seq g) (packet_octets (group_of t q r c) l u)

-- each packet takes a group at least
pub after_more : (t : Part) → Limits t → (g : ℕ) → g < groups t → g < after_packet t g
after_more t w g h =
    let c = cut_good t w g h in
    let n = link t g (cut t g) 0 c.chain c.some in
    omega (arith, n.some, before_le (cut t g) 0 c.some)

-- all that the packet that begins at group g is
pub carries : (t : Part) → lawful_format t.format ≡ true → Limits t → PartFits t → (v : Picture) (seq g : ℕ) → g < groups t
    → seq < 2 ^ 32 → LawfulPicture v
    → fits_part v t ≡ true
    → Carries t v seq g (after_packet t g) (is_last t g) (packet t v seq g)
carries t allowed w p v seq g start h lv fit =
    let k = packed t w p v seq g start in
    let r = packet_reads t w p v seq g start in
    let run = named_run t w p v seq g start in
    record {
      first_octet = refl;
      short = omega (arith, r.size, k.short, k.body_length);
      low_bits = two_octets (seq % 65536) (omega arith);
      high_bits = two_octets (seq / 65536) (omega arith);
      marked = r.marker_is;
      allowed = packet_taken t w p v seq g start;
      is_taken = λ u m fits long. ap is_none (not_refused t u m (packet t v seq g) allowed fits long (packet_taken t w p v seq g start));
      some = after_more t w g start;
      named = packet_names t w p v seq g start;
      carried = λ x n. let b = run x n in packet_octets t w p v seq g start x b.0 b.1;
      shown = λ q x c i n. let b = run (group_of t q x c) n in packet_samples t w p v seq g start lv fit q x c i b.0 b.1;
    }

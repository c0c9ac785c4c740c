-- A packet made of RTP fields, one to three segments and data reads back as these.
use Rattle.std.proofs.Common.{◌≡◌, ℕ, zero, suc, ◌+◌, ◌*◌, ◌/◌, ◌%◌, ◌<◌, ◌≤◌, Bool, true, false, cond, eqb, ltb, List, [], ◌∷◌, ◌++◌, length, get_or, drop, refl, ap, ◌∙◌, not-suc-le-zero, arith}
use Rattle.std.proofs.lemmas.Bool.{cond-true, cond-false, eq-eqb, ne_eqb}
use Rattle.theory.specs.Octets.{octet, number16, number32, octets16}
use Rattle.theory.specs.Formats.{Part, layout_of, row_groups}
use Rattle.theory.specs.Packets.{version, padded, marker, payload_start, payload_end, padding, header, headers, continues, srd_length, srd_field, srd_row, srd_offset}
use Rattle.theory.specs.Cutting.{Segment, srd_headers, rtp_header}

-- numbers of two and of four octets
pub two_octets : (n : ℕ) → n < 65536 → (n / 256) % 256 * 256 + n % 256 ≡ n
two_octets n h = omega arith

pub four_octets : (n : ℕ) → n < 4294967296
    → ((n / 65536 / 256) % 256 * 256 + n / 65536 % 256) * 65536 + ((n % 65536 / 256) % 256 * 256 + n % 65536 % 256) ≡ n
four_octets n h = omega arith

top_bit : (b n : ℕ) → b ≤ 1 → n < 32768 → ((b * 32768 + n) / 256) % 256 / 128 ≡ b
top_bit b n h k = omega arith

low_bits : (b n : ℕ) → b ≤ 1 → n < 32768 → ((b * 32768 + n) / 256 % 256 * 256 + (b * 32768 + n) % 256) % 32768 ≡ n
low_bits b n h k = omega arith

-- the part's limits that a segment meets
pub record SegmentFits (t : Part) (s : Segment) : Type 0 where
  pub short : s.count * (layout_of t.format).octets < 65536
  pub row_small : (s.first / row_groups t.format) * t.format.kind.rows < 32768
  pub offset_small : (s.first % row_groups t.format) * (layout_of t.format).columns < 32768

-- header i of a packet is that of segment s
pub record HeaderIs (t : Part) (q : List ℕ) (i : ℕ) (s : Segment) (more : Bool) : Type 0 where
  pub length_is : srd_length q i ≡ s.count * (layout_of t.format).octets
  pub field_is : srd_field q i ≡ t.field
  pub row_is : srd_row q i ≡ (s.first / row_groups t.format) * t.format.kind.rows
  pub offset_is : srd_offset q i ≡ (s.first % row_groups t.format) * (layout_of t.format).columns
  pub more_is : continues q i ≡ more

more_bit : (more : Bool) (n : ℕ) → n < 32768 → eqb (((cond more 32768 0 + n) / 256) % 256 / 128) 1 ≡ more
more_bit true n h = eq-eqb _ _ (omega arith)
more_bit false n h = ne_eqb _ _ (λ e. omega arith)

more_low : (more : Bool) (n : ℕ) → n < 32768 → ((cond more 32768 0 + n) / 256 % 256 * 256 + (cond more 32768 0 + n) % 256) % 32768 ≡ n
more_low true n h = omega arith
more_low false n h = omega arith

-- the six octets of a header, read back
header_reads : (t : Part) (q : List ℕ) (i : ℕ) (s : Segment) (more : Bool) → t.field ≤ 1 → SegmentFits t s
    → number16 q (header q i) ≡ (s.count * (layout_of t.format).octets / 256) % 256 * 256 + (s.count * (layout_of t.format).octets) % 256
    → octet q (header q i + 2) ≡ ((t.field * 32768 + (s.first / row_groups t.format) * t.format.kind.rows) / 256) % 256
    → octet q (header q i + 2 + 1) ≡ (t.field * 32768 + (s.first / row_groups t.format) * t.format.kind.rows) % 256
    → octet q (header q i + 4) ≡ ((cond more 32768 0 + (s.first % row_groups t.format) * (layout_of t.format).columns) / 256) % 256
    → octet q (header q i + 4 + 1) ≡ (cond more 32768 0 + (s.first % row_groups t.format) * (layout_of t.format).columns) % 256
    → HeaderIs t q i s more
header_reads t q i s more hf fit e₁ e₂ e₃ e₄ e₅ = record {
  length_is = e₁ ∙ two_octets _ fit.short;
  field_is = ap (λ x. x / 128) e₂ ∙ top_bit _ _ hf fit.row_small;
  row_is = pair e₂ e₃ ∙ low_bits _ _ hf fit.row_small;
  offset_is = pair e₄ e₅ ∙ more_low more _ fit.offset_small;
  more_is = ap (λ x. eqb (x / 128) 1) e₄ ∙ more_bit more _ fit.offset_small;
}
  where
    pair : {a b c d : ℕ} → a ≡ b → c ≡ d → (a * 256 + c) % 32768 ≡ (b * 256 + d) % 32768
    pair p r = cc

-- a packet of these parts
abbrev pub framed : Part → ℕ → Bool → List Segment → List ℕ → List ℕ
framed t seq last ss body = rtp_header t seq last ++ octets16 (seq / 65536) ++ srd_headers t ss ++ body

abbrev pub nil_segment : Segment
nil_segment = record { first = 0; count = 0 }

abbrev pub seg : List Segment → ℕ → Segment
seg ss i = get_or ss i nil_segment

-- what a packet reads as
pub record Reads (t : Part) (q : List ℕ) (last : Bool) (ss : List Segment) (body : List ℕ) : Type 0 where
  pub version_is : version q ≡ 2
  pub padded_is : padded q ≡ false
  pub padding_is : padding q ≡ 0
  pub start_is : payload_start q ≡ 12
  pub end_is : payload_end q ≡ length q
  pub marker_is : marker q ≡ last
  pub type_is : octet q 1 % 128 ≡ t.format.payload_type
  pub ssrc_is : number32 q 8 ≡ t.format.ssrc
  pub time_is : number32 q 4 ≡ t.timestamp
  pub headers_are : headers q ≡ length ss
  pub each : (i : ℕ) → i < length ss → HeaderIs t q i (seg ss i) (ltb (i + 1) (length ss))
  pub size : length q ≡ 14 + 6 * length ss + length body
  pub rest : drop (14 + 6 * length ss) q ≡ body

-- the numbers of the part that a packet's fields hold
pub record PartFits (t : Part) : Type 0 where
  pub type_small : t.format.payload_type < 128
  pub ssrc_small : t.format.ssrc < 4294967296
  pub time_small : t.timestamp < 4294967296
  pub field_small : t.field ≤ 1

marker_bit : (last : Bool) (n : ℕ) → n < 128 → eqb ((cond last 128 0 + n) / 128) 1 ≡ last
marker_bit true n h = eq-eqb _ _ (omega arith)
marker_bit false n h = ne_eqb _ _ (λ e. omega arith)

type_bits : (last : Bool) (n : ℕ) → n < 128 → (cond last 128 0 + n) % 128 ≡ n
type_bits true n h = omega arith
type_bits false n h = omega arith

pub below_3 : (P : ℕ → Type 0) → P 0 → P 1 → P 2 → (i : ℕ) → i < 3 → P i
below_3 P a b c zero h = a
below_3 P a b c (suc zero) h = b
below_3 P a b c (suc (suc zero)) h = c
below_3 P a b c (suc (suc (suc i))) h = absurd (not-suc-le-zero {n = i} (omega arith))

pub reads_one : (t : Part) (seq : ℕ) (last : Bool) (a : Segment) (body : List ℕ) → PartFits t → SegmentFits t a
    → Reads t (framed t seq last (a ∷ []) body) last (a ∷ []) body
reads_one t seq last a body w fa =
    let q : List ℕ = framed t seq last (a ∷ []) body in
    let h₀ : HeaderIs t q 0 a false = header_reads t q 0 a false w.field_small fa refl refl refl refl refl in
    record {
      version_is = refl;
      padded_is = refl;
      padding_is = refl;
      start_is = refl;
      end_is = omega arith;
      marker_is = marker_bit last _ w.type_small;
      type_is = type_bits last _ w.type_small;
      ssrc_is = four_octets _ w.ssrc_small;
      time_is = four_octets _ w.time_small;
      headers_are = cond-false _ _ _ h₀.more_is;
      each = λ i l. only_0 (λ i. HeaderIs t q i (seg (a ∷ []) i) (ltb (i + 1) 1)) h₀ i l;
      size = omega arith;
      rest = refl;
    }
  where
    only_0 : (P : ℕ → Type 0) → P 0 → (i : ℕ) → i < 1 → P i
    only_0 P x zero h = x
    only_0 P x (suc i) h = absurd (not-suc-le-zero {n = i} (omega arith))

pub reads_two : (t : Part) (seq : ℕ) (last : Bool) (a b : Segment) (body : List ℕ) → PartFits t → SegmentFits t a → SegmentFits t b
    → Reads t (framed t seq last (a ∷ b ∷ []) body) last (a ∷ b ∷ []) body
reads_two t seq last a b body w fa fb =
    let q : List ℕ = framed t seq last (a ∷ b ∷ []) body in
    let h₀ : HeaderIs t q 0 a true = header_reads t q 0 a true w.field_small fa refl refl refl refl refl in
    let h₁ : HeaderIs t q 1 b false = header_reads t q 1 b false w.field_small fb refl refl refl refl refl in
    record {
      version_is = refl;
      padded_is = refl;
      padding_is = refl;
      start_is = refl;
      end_is = omega arith;
      marker_is = marker_bit last _ w.type_small;
      type_is = type_bits last _ w.type_small;
      ssrc_is = four_octets _ w.ssrc_small;
      time_is = four_octets _ w.time_small;
      headers_are = cond-true _ _ _ h₀.more_is ∙ cond-false _ _ _ h₁.more_is;
      each = λ i l. only_1 (λ i. HeaderIs t q i (seg (a ∷ b ∷ []) i) (ltb (i + 1) 2)) h₀ h₁ i l;
      size = omega arith;
      rest = refl;
    }
  where
    only_1 : (P : ℕ → Type 0) → P 0 → P 1 → (i : ℕ) → i < 2 → P i
    only_1 P x y zero h = x
    only_1 P x y (suc zero) h = y
    only_1 P x y (suc (suc i)) h = absurd (not-suc-le-zero {n = i} (omega arith))

pub reads_three : (t : Part) (seq : ℕ) (last : Bool) (a b c : Segment) (body : List ℕ) → PartFits t → SegmentFits t a → SegmentFits t b
    → SegmentFits t c → Reads t (framed t seq last (a ∷ b ∷ c ∷ []) body) last (a ∷ b ∷ c ∷ []) body
reads_three t seq last a b c body w fa fb fc =
    let q : List ℕ = framed t seq last (a ∷ b ∷ c ∷ []) body in
    let h₀ : HeaderIs t q 0 a true = header_reads t q 0 a true w.field_small fa refl refl refl refl refl in
    let h₁ : HeaderIs t q 1 b true = header_reads t q 1 b true w.field_small fb refl refl refl refl refl in
    let h₂ : HeaderIs t q 2 c false = header_reads t q 2 c false w.field_small fc refl refl refl refl refl in
    record {
      version_is = refl;
      padded_is = refl;
      padding_is = refl;
      start_is = refl;
      end_is = omega arith;
      marker_is = marker_bit last _ w.type_small;
      type_is = type_bits last _ w.type_small;
      ssrc_is = four_octets _ w.ssrc_small;
      time_is = four_octets _ w.time_small;
      headers_are = cond-true _ _ _ h₀.more_is ∙ cond-true _ _ _ h₁.more_is;
      each = λ i l. below_3 (λ i. HeaderIs t q i (seg (a ∷ b ∷ c ∷ []) i) (ltb (i + 1) 3)) h₀ h₁ h₂ i l;
      size = omega arith;
      rest = refl;
    }

-- No row of the table holds of a packet that reads as a chain of segments.
use Rattle.std.proofs.Common.{◌≡◌, ℕ, zero, suc, ◌+◌, ◌-◌, ◌*◌, ◌/◌, ◌%◌, ◌<◌, ◌≤◌, Bool, true, false, not, ◌&&◌, ◌||◌, eqb, ltb, List, length, Some, None, sym, ap, ◌∙◌, subst, ⊎_elim, not-suc-le-zero, mul-le-mul_right, mul-pos, div-add-mod', mul-div_cancel, add-one, arith}
use native.Mathlib.Nat.{mul-mod_left}
use Rattle.std.proofs.lemmas.Bool.{cases_Bool, cases_eq, le-ltb, lt-leb, eq-eqb, ne_eqb, or_from, and_left, and_right, cond-false, not_from_true}
use Rattle.std.proofs.lemmas.Nat.{le-div}
use Rattle.theory.specs.Answers.{first_row}
use Rattle.theory.specs.Octets.{any_below}
use Rattle.theory.specs.Formats.{Part, layout_of, row_groups, rows, map_octets, lawful_format}
use Rattle.theory.specs.Pictures.{Picture, fits_part}
use Rattle.theory.specs.Taking.{offer_refusal}
use Rattle.theory.specs.Packets.{payload_start, payload_end, padding, padded, header, headers, continues, marker, lengths, srd_length, srd_row, srd_offset, srd_field, data_octets, first_group, segment_groups, version, too_long, no_rtp, overrun, other_stream, headers_cut, bad_length, bad_row, bad_offset, out_of_turn, data_short, left_over, broken_block, packet_rows}
use Rattle.theory.specs.Cutting.{Segment, cut_groups}
use Rattle.theory.proofs.Framing.{seg, Reads}
use Rattle.theory.proofs.Limits.{Limits, row_inside, offset_inside}
use Rattle.theory.proofs.Chains.{Chain, before, before_suc, before_all, link}
use Rattle.theory.proofs.Contents.{lengths_are, header_count}
use Rattle.theory.proofs.Searches.{none_below}

same_not : (a b : ℕ) → a ≡ b → not (eqb a b) ≡ false
same_not a b e = not_from_true (eqb a b) (eq-eqb a b e)

-- a packet that no row refuses, offered with a store that fits and a map that is long enough, is taken
pub not_refused : (t : Part) (v : Picture) (m q : List ℕ) → lawful_format t.format ≡ true → fits_part v t ≡ true → map_octets t ≤ length m
    → first_row (packet_rows t q) ≡ None → offer_refusal t v m q ≡ None
not_refused t v m q allowed fit long none =
    cond-false (not (lawful_format t.format)) (Some 4) _ (not_from_true _ allowed)
    ∙ cond-false (not (fits_part v t) || ltb (length m) (map_octets t)) (Some 6) (first_row (packet_rows t q))
    (or_from _ _ (not_from_true _ fit) (le-ltb (length m) (map_octets t) long))
    ∙ none

-- headers that end where they should
whole_headers : (n E h₁ h₂ h₃ : ℕ) (c₀ c₁ c₂ : Bool) → 1 ≤ n → n ≤ 3 → c₀ ≡ ltb 1 n → (1 < n → c₁ ≡ ltb 2 n) → (2 < n → c₂ ≡ ltb 3 n)
    → 14 + 6 * n ≤ E → h₁ ≡ 20 → h₂ ≡ 26 → h₃ ≡ 32
    → (ltb E h₁ || (c₀ && ltb E h₂) || (c₀ && c₁ && (ltb E h₃ || c₂))) ≡ false
whole_headers zero E h₁ h₂ h₃ c₀ c₁ c₂ l u e₀ e₁ e₂ m p₁ p₂ p₃ = absurd (not-suc-le-zero l)
whole_headers (suc zero) E h₁ h₂ h₃ c₀ c₁ c₂ l u e₀ e₁ e₂ m p₁ p₂ p₃ =
    or_from _ _ (or_from _ _ (le-ltb E h₁ (omega arith)) (and_left c₀ _ e₀)) (and_left (c₀ && c₁) _ (and_left c₀ c₁ e₀))
whole_headers (suc (suc zero)) E h₁ h₂ h₃ c₀ c₁ c₂ l u e₀ e₁ e₂ m p₁ p₂ p₃ =
    or_from _ _ (or_from _ _ (le-ltb E h₁ (omega arith)) (and_right c₀ _ (le-ltb E h₂ (omega arith))))
    (and_left (c₀ && c₁) _ (and_right c₀ c₁ (e₁ (omega arith))))
whole_headers (suc (suc (suc zero))) E h₁ h₂ h₃ c₀ c₁ c₂ l u e₀ e₁ e₂ m p₁ p₂ p₃ =
    or_from _ _ (or_from _ _ (le-ltb E h₁ (omega arith)) (and_right c₀ _ (le-ltb E h₂ (omega arith))))
    (and_right (c₀ && c₁) _ (or_from _ _ (le-ltb E h₃ (omega arith)) (e₂ (omega arith))))
whole_headers (suc (suc (suc (suc n)))) E h₁ h₂ h₃ c₀ c₁ c₂ l u e₀ e₁ e₂ m p₁ p₂ p₃ = absurd (not-suc-le-zero {n = n} (omega arith))

-- a group c on: a later row, or the same row that much on
later_row : (R K f f' c : ℕ) → 0 < R → f' ≡ f + c → (f / R) * K ≤ (f' / R) * K
later_row R K f f' c p e = mul-le-mul_right K (le-div (f / R) f' R p (omega (arith, div-add-mod' f R)))

same_row : (R K f f' c : ℕ) → 0 < K → f' ≡ f + c → (f' / R) * K ≡ (f / R) * K → f' % R ≡ f % R + c
same_row R K f f' c p e s =
    let z : f' / R ≡ f / R = sym (mul-div_cancel (f' / R) p) ∙ ap (λ x. x / K) s ∙ mul-div_cancel (f / R) p in
    omega (arith, div-add-mod' f R, div-add-mod' f' R, ap (λ x. x * R) z)

in_turn : (r r' a a' n : ℕ) → r ≤ r' → (r' ≡ r → a' ≡ a + n) → (ltb r' r || (eqb r' r && ltb a' (a + n))) ≡ false
in_turn r r' a a' n l f = or_from (ltb r' r) (eqb r' r && ltb a' (a + n)) (le-ltb r' r l)
    (⊎_elim (λ e. and_right (eqb r' r) (ltb a' (a + n)) (le-ltb a' (a + n) (omega (arith, f e))))
    (λ d. and_left (eqb r' r) (ltb a' (a + n)) (ne_eqb r' r d)) (cases_eq r' r))

pub record Packed (t : Part) (last : Bool) (g : ℕ) (ss : List Segment) (body : List ℕ) : Type 0 where
  pub chain : Chain t g ss
  pub some : 1 ≤ length ss
  pub few : length ss ≤ 3
  pub body_length : length body ≡ cut_groups ss * (layout_of t.format).octets
  pub short : 6 * length ss + cut_groups ss * (layout_of t.format).octets ≤ 1438
  pub blocks : t.format.mode ≡ 2 → last ≡ false → (cut_groups ss * (layout_of t.format).octets) % 180 ≡ 0

module _ (t : Part) (w : Limits t) (q : List ℕ) (last : Bool) (g : ℕ) (ss : List Segment) (body : List ℕ) (k : Packed t last g ss body)
    (r : Reads t q last ss body) where
  size_low : 14 + 6 * length ss ≤ length q
  size_low = omega (arith, r.size)

  not_too_long : too_long q ≡ false
  not_too_long = le-ltb 1452 (length q) (omega (arith, r.size, k.short, k.body_length))

  is_rtp : no_rtp q ≡ false
  is_rtp = or_from _ _ (le-ltb (length q) 12 (omega (arith, r.size))) (same_not (version q) 2 r.version_is)

  no_overrun : overrun q ≡ false
  no_overrun =
      or_from _ _ (le-ltb (length q) (payload_start q + padding q) (omega (arith, r.size, r.start_is, r.padding_is)))
      (and_left (padded q) _ r.padded_is)

  same_stream : other_stream t q ≡ false
  same_stream = or_from _ _ (or_from _ _ (same_not _ _ r.type_is) (same_not _ _ r.ssrc_is)) (same_not _ _ r.time_is)

  not_cut : headers_cut q ≡ false
  not_cut =
      whole_headers (length ss) (payload_end q) (header q 1) (header q 2) (header q 3) (continues q 0) (continues q 1) (continues q 2)
      k.some k.few
      (r.each 0 k.some).more_is (λ l. (r.each 1 l).more_is) (λ l. (r.each 2 l).more_is)
      (omega (arith, size_low, r.end_is)) (omega (arith, r.start_is)) (omega (arith, r.start_is)) (omega (arith, r.start_is))

  -- a test that fails at each header
  at_headers : (f : ℕ → Bool) → ((i : ℕ) → i < length ss → f i ≡ false) → any_below (headers q) f ≡ false
  at_headers f h = none_below f (headers q) (λ i l. h i (subst (λ n. i < n) r.headers_are l))

  good_lengths : bad_length t q ≡ false
  good_lengths = at_headers _ (λ i l.
      let s : Segment = seg ss i in
      let o : ℕ = (layout_of t.format).octets in
      let e : srd_length q i ≡ s.count * o = (r.each i l).length_is in
      let pos : 0 < s.count * o = mul-pos (link t g ss i k.chain l).some w.octets_pos in
      or_from _ _ (same_not (srd_length q i % o) 0 (ap (λ x. x % o) e ∙ mul-mod_left s.count o))
      (and_right _ _ (ne_eqb (srd_length q i) 0 (λ z. omega arith))))

  good_rows : bad_row t q ≡ false
  good_rows = at_headers _ (λ i l.
      let s : Segment = seg ss i in
      let K : ℕ = t.format.kind.rows in
      let e : srd_row q i ≡ (s.first / row_groups t.format) * K = (r.each i l).row_is in
      let inside : (s.first / row_groups t.format) * K < rows t = row_inside t w s.first (link t g ss i k.chain l).inside in
      or_from _ _ (or_from _ _ (same_not (srd_field q i) t.field (r.each i l).field_is) (lt-leb (rows t) (srd_row q i) (omega arith)))
      (same_not (srd_row q i % K) 0 (ap (λ x. x % K) e ∙ mul-mod_left (s.first / row_groups t.format) K)))

  good_offsets : bad_offset t q ≡ false
  good_offsets = at_headers _ (λ i l.
      let s : Segment = seg ss i in
      let C : ℕ = (layout_of t.format).columns in
      let R : ℕ = row_groups t.format in
      let e : srd_offset q i ≡ (s.first % R) * C = (r.each i l).offset_is in
      let inside : (s.first % R) * C < t.format.width = offset_inside t w s.first in
      let a : first_group t q i ≡ s.first % R = ap (λ x. x / C) e ∙ mul-div_cancel (s.first % R) w.layout.columns_range.0 in
      let b : segment_groups t q i ≡ s.count = header_count t q i s (ltb (i + 1) (length ss)) w (r.each i l) in
      or_from _ _ (or_from _ _ (same_not (srd_offset q i % C) 0 (ap (λ x. x % C) e ∙ mul-mod_left (s.first % R) C))
      (lt-leb t.format.width (srd_offset q i) (omega arith)))
      (le-ltb R (first_group t q i + segment_groups t q i) (omega (arith, (link t g ss i k.chain l).in_row))))

  good_turns : out_of_turn t q ≡ false
  good_turns = none_below _ (headers q - 1) (λ i l.
      let i₁ : i + 1 < length ss = omega (arith, r.headers_are) in
      let i₀ : i < length ss = omega arith in
      let R : ℕ = row_groups t.format in
      let K : ℕ = t.format.kind.rows in
      let C : ℕ = (layout_of t.format).columns in
      let f : ℕ = (seg ss i).first in
      let f' : ℕ = (seg ss (i + 1)).first in
      let n : ℕ = (seg ss i).count in
      let step : f' ≡ f + n = omega (
        arith,
        (link t g ss i k.chain i₀).first_is,
        (link t g ss (i + 1) k.chain i₁).first_is,
        before_suc ss i i₀,
        ap (before ss) (add-one i),
      ) in
      let e : srd_row q i ≡ (f / R) * K = (r.each i i₀).row_is in
      let e' : srd_row q (i + 1) ≡ (f' / R) * K = (r.each (i + 1) i₁).row_is in
      let a : first_group t q i ≡ f % R = ap (λ x. x / C) (r.each i i₀).offset_is ∙ mul-div_cancel (f % R) w.layout.columns_range.0 in
      let a' : first_group t q (i + 1) ≡ f' % R = ap (λ x. x / C) (r.each (i + 1) i₁).offset_is
      ∙ mul-div_cancel (f' % R) w.layout.columns_range.0 in
      let b : segment_groups t q i ≡ n = header_count t q i (seg ss i) (ltb (i + 1) (length ss)) w (r.each i i₀) in
      in_turn (srd_row q i) (srd_row q (i + 1)) (first_group t q i) (first_group t q (i + 1)) (segment_groups t q i)
      (omega (arith, later_row R K f f' n w.row_pos step))
      (λ same. omega (arith, same_row R K f f' n w.layout.rows_range.0 step (sym e' ∙ same ∙ e))))

  lengths_all : lengths q (headers q) ≡ cut_groups ss * (layout_of t.format).octets
  lengths_all =
      ap (lengths q) r.headers_are ∙ lengths_are t q last ss body r (length ss) (omega arith)
      ∙ ap (λ x. x * (layout_of t.format).octets) (before_all ss)

  data_all : data_octets q ≡ cut_groups ss * (layout_of t.format).octets
  data_all = omega (arith, r.size, r.end_is, r.start_is, r.headers_are, k.body_length)

  enough_data : data_short q ≡ false
  enough_data = le-ltb (data_octets q) (lengths q (headers q)) (omega (arith, lengths_all, data_all))

  no_left_over : left_over q ≡ false
  no_left_over = and_left _ _ (le-ltb (lengths q (headers q)) (data_octets q) (omega (arith, lengths_all, data_all)))

  whole_blocks : broken_block t q ≡ false
  whole_blocks = ⊎_elim
      (λ two. ⊎_elim (λ m. and_left _ _ (and_right _ _ (not_from_true (marker q) m)))
      (λ m. and_right _ _ (same_not (lengths q (headers q) % 180) 0 (ap (λ x. x % 180) lengths_all ∙ k.blocks two (sym r.marker_is ∙ m))))
      (cases_Bool (marker q)))
      (λ other. and_left _ _ (and_left _ _ (ne_eqb t.format.mode 2 other)))
      (cases_eq t.format.mode 2)

  -- the packet is not refused
  pub no_row : first_row (packet_rows t q) ≡ None
  no_row =
      cond-false (too_long q) _ _ not_too_long ∙ cond-false (no_rtp q) _ _ is_rtp ∙ cond-false (overrun q) _ _ no_overrun
      ∙ cond-false (other_stream t q) _ _ same_stream
      ∙ cond-false (headers_cut q) _ _ not_cut
      ∙ cond-false (bad_length t q) _ _ good_lengths
      ∙ cond-false (bad_row t q) _ _ good_rows
      ∙ cond-false (bad_offset t q) _ _ good_offsets
      ∙ cond-false (out_of_turn t q) _ _ good_turns
      ∙ cond-false (data_short q) _ _ enough_data
      ∙ cond-false (left_over q) _ _ no_left_over
      ∙ cond-false (broken_block t q) _ _ whole_blocks

-- What a packet that reads as a chain of segments names, and the octets of each group.
use Rattle.std.proofs.Common.{◌≡◌, ℕ, zero, suc, ◌+◌, ◌-◌, ◌*◌, ◌/◌, ◌%◌, ◌^◌, ◌<◌, ◌≤◌, Bool, true, ◌&&◌, ltb, leb, List, [], ◌∷◌, ◌++◌, length, take, drop, sym, refl, ap, ◌∙◌, subst, append_assoc, not-suc-le-zero, add-zero, add-mul, suc-add, div-add-mod', zero-add, zero-mul, mul-div_cancel, add-one, arith}
use Rattle.std.specs.List.{range_with_len}
use Rattle.std.specs.Int.Digits.{number_from_digits}
use Rattle.std.proofs.lemmas.List.{drop-drop, drop_at, take_at, length-append}
use Rattle.std.proofs.lemmas.Bool.{and_parts, and_from, leb-true, ltb-true, le-leb, lt-ltb}
use Rattle.theory.specs.Octets.{first_from}
use Rattle.theory.specs.Formats.{Part, layout_of, row_groups}
use Rattle.theory.specs.Pictures.{Picture}
use Rattle.theory.specs.Groups.{group_samples, group_octets}
use Rattle.theory.specs.Packets.{headers, lengths, unit_row, first_group, segment_groups, payload_start}
use Rattle.theory.specs.Taking.{segment_names, names, octets_of}
use Rattle.theory.specs.Cutting.{Segment, cut_groups, segments_data, concat_map}
use Rattle.theory.proofs.Digits.{length_digits}
use Rattle.theory.proofs.Framing.{seg, HeaderIs, Reads}
use Rattle.theory.proofs.Limits.{Limits}
use Rattle.theory.proofs.Chains.{Chain, before, before_suc, before_le, link, holder}
use Rattle.theory.proofs.Searches.{first_from_finds, any_below_from, any_below_some}
use Rattle.theory.proofs.Tests.{same_tests}

-- runs of counted numbers
pub counting_append : (a m n : ℕ) → range_with_len a (m + n) ≡ range_with_len a m ++ range_with_len (a + m) n
counting_append a zero n = ap (λ x. range_with_len a x) (zero-add n) ∙ ap (λ x. range_with_len x n) (sym (add-zero a))
counting_append a (suc m) n =
    ap (λ x. range_with_len a x) (suc-add m n) ∙ ap (λ xs. a ∷ xs)
    (counting_append (a + 1) m n ∙ ap (λ x. range_with_len (a + 1) m ++ range_with_len x n) (omega arith))

pub concat_map_append : (f : ℕ → List ℕ) (xs ys : List ℕ) → concat_map f (xs ++ ys) ≡ concat_map f xs ++ concat_map f ys
concat_map_append f [] ys = refl
concat_map_append f (x ∷ xs) ys = ap (λ l. f x ++ l) (concat_map_append f xs ys) ∙ sym (append_assoc (f x) (concat_map f xs) (concat_map f ys))

pub length_concat : (f : ℕ → List ℕ) (a n o : ℕ) → ((x : ℕ) → length (f x) ≡ o) → length (concat_map f (range_with_len a n)) ≡ n * o
length_concat f a zero o h = sym (zero-mul o)
length_concat f a (suc n) o h =
    length-append (f a) (concat_map f (range_with_len (a + 1) n))
    ∙ omega (arith, h a, length_concat f (a + 1) n o h, ap (λ x. x * o) (add-one n), add-mul n 1 o)

pub piece_at : (f : ℕ → List ℕ) (a n o j : ℕ) → ((x : ℕ) → length (f x) ≡ o) → j < n
    → take o (drop (j * o) (concat_map f (range_with_len a n))) ≡ f (a + j)
piece_at f a zero o j h l = absurd (not-suc-le-zero l)
piece_at f a (suc n) o zero h l =
    ap (λ x. take o (drop x (f a ++ concat_map f (range_with_len (a + 1) n)))) (zero-mul o)
    ∙ take_at (f a) (concat_map f (range_with_len (a + 1) n)) o (h a) ∙ ap f (sym (add-zero a))
piece_at f a (suc n) o (suc j) h l =
    let rest : List ℕ = concat_map f (range_with_len (a + 1) n) in
    let e : suc j * o ≡ o + j * o = omega (arith, ap (λ x. x * o) (add-one j), add-mul j 1 o) in
    ap (λ x. take o (drop x (f a ++ rest))) e
    ∙ ap (take o) (sym (drop-drop (j * o) o (f a ++ rest)) ∙ ap (drop (j * o)) (drop_at (f a) rest o (h a)))
    ∙ piece_at f (a + 1) n o j h (omega arith)
    ∙ ap f (omega arith)

-- the data of a chain of segments: the octets of its groups
pub data_of_chain : (t : Part) (v : Picture) (g : ℕ) (ss : List Segment) → Chain t g ss
    → segments_data t v ss ≡ concat_map (group_octets t v) (range_with_len g (cut_groups ss))
data_of_chain t v g [] c = refl
data_of_chain t v g (s ∷ ss) c =
    let f : ℕ → List ℕ = group_octets t v in
    ap (λ x. concat_map f (range_with_len x s.count) ++ segments_data t v ss) c.0
    ∙ ap (λ l. concat_map f (range_with_len g s.count) ++ l) (data_of_chain t v (g + s.count) ss c.4)
    ∙ sym (concat_map_append f (range_with_len g s.count) (range_with_len (g + s.count) (cut_groups ss)))
    ∙ ap (concat_map f) (sym (counting_append g s.count (cut_groups ss)))

pub length_group_octets : (t : Part) (v : Picture) (h : ℕ) → length (group_octets t v h) ≡ (layout_of t.format).octets
length_group_octets t v h = length_digits 8 (layout_of t.format).octets (number_from_digits (2 ^ t.format.depth) (group_samples t v h))

pub length_data : (t : Part) (v : Picture) (g : ℕ) (ss : List Segment) → Chain t g ss
    → length (segments_data t v ss) ≡ cut_groups ss * (layout_of t.format).octets
length_data t v g ss c =
    ap length (data_of_chain t v g ss c) ∙ length_concat (group_octets t v) g (cut_groups ss) (layout_of t.format).octets
    (length_group_octets t v)

-- a header's unit row, first group and number of groups
pub header_start : (t : Part) (q : List ℕ) (i : ℕ) (s : Segment) (more : Bool) → Limits t → HeaderIs t q i s more
    → unit_row t q i * row_groups t.format + first_group t q i ≡ s.first
header_start t q i s more w h =
    let a : unit_row t q i ≡ s.first / row_groups t.format = ap (λ x. x / t.format.kind.rows) h.row_is
    ∙ mul-div_cancel (s.first / row_groups t.format) w.layout.rows_range.0 in
    let b : first_group t q i ≡ s.first % row_groups t.format = ap (λ x. x / (layout_of t.format).columns) h.offset_is
    ∙ mul-div_cancel (s.first % row_groups t.format) w.layout.columns_range.0 in
    ap (λ x. x * row_groups t.format + first_group t q i) a
    ∙ ap (λ x. (s.first / row_groups t.format) * row_groups t.format + x) b ∙ div-add-mod' s.first (row_groups t.format)

pub header_count : (t : Part) (q : List ℕ) (i : ℕ) (s : Segment) (more : Bool) → Limits t → HeaderIs t q i s more
    → segment_groups t q i ≡ s.count
header_count t q i s more w h = ap (λ x. x / (layout_of t.format).octets) h.length_is ∙ mul-div_cancel s.count w.octets_pos

-- which groups a header names
names_same : (s s' k k' h : ℕ) → s ≡ s' → k ≡ k' → (leb s h && ltb h (s + k)) ≡ (leb s' h && ltb h (s' + k'))
names_same s s' k k' h p r = cc

pub header_names : (t : Part) (q : List ℕ) (i : ℕ) (s : Segment) (more : Bool) (h : ℕ) → Limits t → HeaderIs t q i s more
    → segment_names t q i h ≡ (leb s.first h && ltb h (s.first + s.count))
header_names t q i s more h w k = names_same _ _ _ _ h (header_start t q i s more w k) (header_count t q i s more w k)

-- the lengths of the first headers together
pub lengths_are : (t : Part) (q : List ℕ) (last : Bool) (ss : List Segment) (body : List ℕ) → Reads t q last ss body → (i : ℕ)
    → i ≤ length ss → lengths q i ≡ before ss i * (layout_of t.format).octets
lengths_are t q last [] body r zero h = sym (zero-mul (layout_of t.format).octets)
lengths_are t q last (s ∷ ss) body r zero h = sym (zero-mul (layout_of t.format).octets)
lengths_are t q last ss body r (suc i) h =
    let o : ℕ = (layout_of t.format).octets in
    omega (
      arith,
      lengths_are t q last ss body r i (omega arith),
      (r.each i h).length_is,
      ap (λ x. x * o) (before_suc ss i h),
      add-mul (before ss i) (seg ss i).count o,
    )

pick : (o X a x : ℕ) (q body : List ℕ) → X ≡ a + x → drop a q ≡ body → take o (drop X q) ≡ take o (drop x body)
pick o X a x q body e f = ap (λ n. take o (drop n q)) e ∙ ap (take o) (sym (drop-drop x a q) ∙ ap (drop x) f)

-- the place of group h in the data: o octets to a group, b groups before the segment's first, f
place_of : (d e n L s f g b h o : ℕ) → d ≡ 12 → e ≡ n → L ≡ b * o → s ≡ f → f ≡ g + b → f ≤ h
    → d + 2 + 6 * e + L + (h - s) * o ≡ 14 + 6 * n + (h - g) * o
place_of d e n L s f g b h o p₁ p₂ p₃ p₄ p₅ l =
    let m : (h - s) * o ≡ (h - f) * o = ap (λ x. (h - x) * o) p₄ in
    let k : (h - g) * o ≡ (b + (h - f)) * o = ap (λ x. x * o) (omega arith) in
    omega (arith, add-mul b (h - f) o)

module _ (t : Part) (w : Limits t) (q : List ℕ) (last : Bool) (g : ℕ) (ss : List Segment) (body : List ℕ) (c : Chain t g ss)
    (r : Reads t q last ss body) where
  -- a header that names a group is that of a segment that holds it
  named_by : (i h : ℕ) → i < length ss → segment_names t q i h ≡ true → ((seg ss i).first ≤ h) × (h < (seg ss i).first + (seg ss i).count)
  named_by i h l e =
      let s : Segment = seg ss i in
      let p = and_parts (leb s.first h) (ltb h (s.first + s.count))
      (sym (header_names t q i s (ltb (i + 1) (length ss)) h w (r.each i l)) ∙ e) in
      (leb-true s.first h p.0, ltb-true h (s.first + s.count) p.1)

  names_held : (i h : ℕ) → i < length ss → (seg ss i).first ≤ h → h < (seg ss i).first + (seg ss i).count → segment_names t q i h ≡ true
  names_held i h l a b =
      let s : Segment = seg ss i in
      header_names t q i s (ltb (i + 1) (length ss)) h w (r.each i l)
      ∙ and_from (leb s.first h) (ltb h (s.first + s.count)) (le-leb s.first h a) (lt-ltb h (s.first + s.count) b)

  -- the packet names just the groups of the chain
  pub names_are : (h : ℕ) → names t q h ≡ (leb g h && ltb h (g + cut_groups ss))
  names_are h = same_tests (names t q h) (leb g h && ltb h (g + cut_groups ss)) forth back
    where
      forth : names t q h ≡ true → (leb g h && ltb h (g + cut_groups ss)) ≡ true
      forth e =
          let some = any_below_some (λ i. segment_names t q i h) (headers q) e in
          let l : some.0 < length ss = subst (λ n. some.0 < n) r.headers_are some.1 in
          let held = named_by some.0 h l some.2 in
          let k = link t g ss some.0 c l in
          let b = before_le ss some.0 l in
          and_from (leb g h) (ltb h (g + cut_groups ss)) (le-leb g h (omega (arith, k.first_is, held.0)))
          (lt-ltb h (g + cut_groups ss) (omega (arith, k.first_is, held.1)))

      back : (leb g h && ltb h (g + cut_groups ss)) ≡ true → names t q h ≡ true
      back e =
          let p = and_parts (leb g h) (ltb h (g + cut_groups ss)) e in
          let k = holder t g ss h c (leb-true g h p.0) (ltb-true h (g + cut_groups ss) p.1) in
          any_below_from (λ i. segment_names t q i h) (headers q) k.0 (subst (λ n. k.0 < n) (sym r.headers_are) k.1)
          (names_held k.0 h k.1 k.2 k.3)

  -- the octets of each group of the chain
  pub octets_are : (v : Picture) (h : ℕ) → body ≡ segments_data t v ss → g ≤ h → h < g + cut_groups ss
      → octets_of t q h ≡ group_octets t v h
  octets_are v h is l u =
      let o : ℕ = (layout_of t.format).octets in
      let test : ℕ → Bool = λ j. segment_names t q j h in
      let k = holder t g ss h c l u in
      let found = first_from_finds test (headers q) 0 k.0 (omega arith) (omega (arith, k.1, r.headers_are))
      (names_held k.0 h k.1 k.2 k.3) in
      let i : ℕ = first_from 0 (headers q) test in
      let il : i < length ss = omega (arith, found.0, k.1) in
      let held = named_by i h il found.1 in
      let n = link t g ss i c il in
      let place = place_of (payload_start q) (headers q) (length ss) (lengths q i)
      (unit_row t q i * row_groups t.format + first_group t q i) (seg ss i).first g (before ss i) h o
      r.start_is r.headers_are (lengths_are t q last ss body r i (omega arith))
      (header_start t q i (seg ss i) (ltb (i + 1) (length ss)) w (r.each i il)) n.first_is held.0 in
      pick o _ (14 + 6 * length ss) ((h - g) * o) q body place r.rest
      ∙ ap (λ b. take o (drop ((h - g) * o) b)) (is ∙ data_of_chain t v g ss c)
      ∙ piece_at (group_octets t v) g (cut_groups ss) o (h - g) (length_group_octets t v) (omega arith)
      ∙ ap (group_octets t v) (omega arith)

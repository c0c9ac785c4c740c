-- A packet that no row refuses names groups of the part only, each at most once, and all their octets lie in it.
use Rattle.std.proofs.Common.{◌≡◌, ℕ, zero, suc, ◌+◌, ◌-◌, ◌*◌, ◌/◌, ◌%◌, ◌<◌, ◌≤◌, true, false, ◌&&◌, eqb, ltb, leb, List, get_or, replicate, None, sym, refl, ap, ⊎_elim, mul-le-mul_right, add-mul, div-add-mod', add-one, arith}
use lib.ListN.{length-replicate}
use Rattle.std.proofs.lemmas.Bool.{both_ways, cases_eq, cases_lt, cases_order, and_cases, and_from, and_parts, or_parts, leb-true, ltb-true, ltb-false, eqb-true, eq-eqb, not-false}
use Rattle.theory.specs.Answers.{first_row, is_none}
use Rattle.theory.specs.Layouts.{LawfulKind}
use Rattle.theory.specs.Formats.{Part, layout_of, row_groups, map_octets, lawful_format, plane_width, plane_height}
use Rattle.theory.specs.Pictures.{Picture, fits_part}
use Rattle.theory.specs.Packets.{headers, payload_end, data_start, lengths, srd_length, srd_row, first_group, segment_groups, bad_length, bad_row, out_of_turn, packet_rows}
use Rattle.theory.specs.Taking.{segment_start, segment_names}
use Rattle.theory.specs.Readable.{Readable}
use Rattle.theory.specs.Naming.{SoundNaming}
use Rattle.theory.proofs.Readable.{row_fails, readable}
use Rattle.theory.proofs.Refusals.{not_refused}
use Rattle.theory.proofs.Searches.{none_below_at}

-- a segment of n groups from f on, in front of a later one
in_front : (r s k w f n l : ℕ) → r % k ≡ 0 → s % k ≡ 0 → f + n ≤ w → r ≤ s → (s ≡ r → f + n ≤ l) → r / k * w + f + n ≤ s / k * w + l
in_front r s k w f n l whole whole' room up same = ⊎_elim
    (λ e. omega (arith, same e, ap (λ x. x / k * w) e))
    (λ d. ⊎_elim
    (λ below. omega (arith, add-mul (r / k) 1 w, mul-le-mul_right w below))
    (λ above. absurd (omega (arith, d, mul-le-mul_right k above, div-add-mod' r k, div-add-mod' s k)))
    (cases_lt (r / k) (s / k)))
    (cases_eq s r)

-- the first segments have no more octets than all
lengths_up : (q : List ℕ) (i n : ℕ) → i < n → lengths q i + srd_length q i ≤ lengths q n
lengths_up q i zero h = absurd (omega arith)
lengths_up q i (suc n) h = go (lengths_up q i n)
  where
    go : (i < n → lengths q i + srd_length q i ≤ lengths q n) → lengths q i + srd_length q i ≤ lengths q n + srd_length q n
    go f = grind (arith, f)

-- a picture with the sizes of the part
abbrev blank : Part → Picture
blank t = record {
  planes = t.format.kind.planes;
  width = plane_width t;
  height = plane_height t;
  depth = t.format.depth;
  sample = λ _ _ _. 0;
}

module _ (t : Part) (law : LawfulKind t.format.kind) (q : List ℕ) (allowed : lawful_format t.format ≡ true)
    (none : first_row (packet_rows t q) ≡ None) where
  fails : (i : ℕ) → (get_or (packet_rows t q) i (false, 0)).0 ≡ false
  fails i = row_fails (packet_rows t q) i (ap is_none none)

  is_readable : Readable t (blank t) (replicate (map_octets t) 0) q
  is_readable =
      let m : List ℕ = replicate (map_octets t) 0 in
      let size : (p : ℕ) → (eqb (plane_width t p) (plane_width t p) && eqb (plane_height t p) (plane_height t p)) ≡ true =
      λ p. and_from _ _ (eq-eqb (plane_width t p) (plane_width t p) (omega arith)) (eq-eqb (plane_height t p) (plane_height t p) (omega arith)) in
      let fits : fits_part (blank t) t ≡ true =
      and_from _ _ (and_from _ _ (eq-eqb t.format.kind.planes t.format.kind.planes (omega arith))
      (and_from _ _ (size 2) (and_from _ _ (size 1) (and_from _ _ (size 0) refl))))
      (eq-eqb t.format.depth t.format.depth (omega arith)) in
      readable t law (blank t) m q
      (ap is_none (not_refused t (blank t) m q allowed fits (omega (arith, length-replicate {A = ℕ} (map_octets t) 0)) none))

  whole_row : (i : ℕ) → i < headers q → srd_row q i % t.format.kind.rows ≡ 0
  whole_row i h =
      let no_row : bad_row t q ≡ false = fails 6 in
      eqb-true _ _ (not-false _ (or_parts _ _ (none_below_at _ (headers q) no_row i h)).1)

  whole_length : (i : ℕ) → i < headers q → srd_length q i % (layout_of t.format).octets ≡ 0
  whole_length i h =
      let no_length : bad_length t q ≡ false = fails 5 in
      eqb-true _ _ (not-false _ (or_parts _ _ (none_below_at _ (headers q) no_length i h)).0)

  -- a segment ends before the next begins
  next : (i : ℕ) → i + 1 < headers q → segment_start t q i + segment_groups t q i ≤ segment_start t q (i + 1)
  next i h =
      let no-turn : out_of_turn t q ≡ false = fails 8 in
      let turn = or_parts _ _ (none_below_at _ (headers q - 1) no-turn i (omega arith)) in
      let up : srd_row q i ≤ srd_row q (i + 1) = ltb-false _ _ turn.0 in
      let same : srd_row q (i + 1) ≡ srd_row q i → first_group t q i + segment_groups t q i ≤ first_group t q (i + 1) =
      λ e. ⊎_elim (λ d. absurd (both_ways _ d (eq-eqb (srd_row q (i + 1)) (srd_row q i) e))) (λ d. ltb-false _ _ d) (and_cases _ _ turn.1) in
      in_front (srd_row q i) (srd_row q (i + 1)) t.format.kind.rows (row_groups t.format) (first_group t q i) (segment_groups t q i)
      (first_group t q (i + 1)) (whole_row i (omega arith)) (whole_row (i + 1) h) (is_readable.in_row i (omega arith)) up same

  -- and before every later one
  later : (i j : ℕ) → i < j → j < headers q → segment_start t q i + segment_groups t q i ≤ segment_start t q j
  later i zero l h = absurd (omega arith)
  later i (suc j) l h = go (later i j) (next j)
    where
      go : (i < j → j < headers q → segment_start t q i + segment_groups t q i ≤ segment_start t q j)
          → (j + 1 < headers q → segment_start t q j + segment_groups t q j ≤ segment_start t q (j + 1))
          → segment_start t q i + segment_groups t q i ≤ segment_start t q (suc j)
      go before here =
          let step : segment_start t q j + segment_groups t q j ≤ segment_start t q (suc j) = rw (sym (add-one j)) (here (omega arith)) in
          ⊎_elim
          (λ e. omega (arith, step, ap (λ x. segment_start t q x + segment_groups t q x) e))
          (λ d. omega (arith, step, before (omega (arith, d)) (omega arith)))
          (cases_eq i j)

  -- where a segment names a group
  held : (i g : ℕ) → segment_names t q i g ≡ true → (segment_start t q i ≤ g) × (g < segment_start t q i + segment_groups t q i)
  held i g h =
      let b = and_parts (leb (segment_start t q i) g) (ltb g (segment_start t q i + segment_groups t q i)) h in
      (leb-true (segment_start t q i) g b.0, ltb-true g (segment_start t q i + segment_groups t q i) b.1)

  once : (i j g : ℕ) → i < headers q → j < headers q → segment_names t q i g ≡ true → segment_names t q j g ≡ true → i ≡ j
  once i j g hi hj a b = ⊎_elim (λ e. e)
      (⊎_elim (λ l. absurd (omega (arith, held i g a, held j g b, later i j l hj))) (λ l. absurd (omega (arith, held i g a, held j g b, later j i l hi))))
      (cases_order i j)

  inside : (i : ℕ) → i < headers q → data_start q + lengths q i + srd_length q i ≤ payload_end q
  inside i h = omega (arith, is_readable.segments_inside, lengths_up q i (headers q) h)

  whole : (i : ℕ) → i < headers q → segment_groups t q i * (layout_of t.format).octets ≡ srd_length q i
  whole i h = omega (arith, div-add-mod' (srd_length q i) (layout_of t.format).octets, whole_length i h)

  octets_in : (i g : ℕ) → i < headers q → segment_names t q i g ≡ true
      → data_start q + lengths q i + (g - segment_start t q i + 1) * (layout_of t.format).octets ≤ payload_end q
  octets_in i g h e =
      let b = held i g e in
      let o : ℕ = (layout_of t.format).octets in
      let most : (g - segment_start t q i + 1) * o ≤ segment_groups t q i * o = mul-le-mul_right o (omega (arith, b)) in
      omega (arith, inside i h, whole i h)

  pub sound_naming : SoundNaming t q
  sound_naming = record {
    segments_inside = is_readable.segments_inside;
    segment_inside = inside;
    whole_segments = whole;
    in_row = is_readable.in_row;
    in_part = is_readable.in_part;
    names_inside = is_readable.names_inside;
    names_once = once;
    whole_groups = is_readable.whole_groups;
    octets_inside = octets_in;
  }

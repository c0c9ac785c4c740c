-- A taken packet can be read: no field, no segment and no group of it lies outside.
use Rattle.std.proofs.Common.{◌≡◌, ℕ, zero, suc, ◌+◌, ◌-◌, ◌*◌, ◌/◌, ◌<◌, ◌≤◌, Bool, true, false, cond, not, ◌&&◌, ◌||◌, ltb, leb, List, [], ◌∷◌, length, get_or, Some, refl, mul-le-mul_right, add-mul, div-mul-le_self, arith, length-drop, length-take}
use Rattle.std.proofs.lemmas.Bool.{both_ways, and_parts, or_parts, leb-true, ltb-true, ltb-false, leb-false, not-false}
use Rattle.std.proofs.lemmas.Nat.{mul-le, le-div}
use Rattle.theory.specs.Answers.{first_row, is_none}
use Rattle.theory.specs.Octets.{ceil_div, first_from}
use Rattle.theory.specs.Layouts.{LawfulKind}
use Rattle.theory.specs.Formats.{Part, layout_of, row_groups, rows, groups, map_octets, lawful_format}
use Rattle.theory.specs.Pictures.{Picture, fits_part}
use Rattle.theory.specs.Packets.{headers, header, continues, payload_start, payload_end, padding, data_start, data_octets, lengths, srd_length, srd_row, first_group, segment_groups, overrun, headers_cut, bad_row, bad_offset, data_short}
use Rattle.theory.specs.Taking.{offer_rows, segment_start, segment_names, names, octets_of, taken}
use Rattle.theory.specs.Readable.{Readable}
use Rattle.theory.proofs.Searches.{first_from_finds, any_below_some, none_below_at}

-- where no row of a table holds, row i does not
pub row_fails : (xs : List (Bool × ℕ)) (i : ℕ) → is_none (first_row xs) ≡ true → (get_or xs i (false, 0)).0 ≡ false
row_fails [] i h = refl
row_fails (x ∷ xs) zero h = go x.0 h
  where
    go : (b : Bool) → is_none (cond b (Some x.1) (first_row xs)) ≡ true → b ≡ false
    go true k = absurd (both_ways false refl k)
    go false k = refl
row_fails (x ∷ xs) (suc i) h = row_fails xs i (go x.0 h)
  where
    go : (b : Bool) → is_none (cond b (Some x.1) (first_row xs)) ≡ true → is_none (first_row xs) ≡ true
    go true k = absurd (both_ways false refl k)
    go false k = k

below_groups : (row kr all rg first seg : ℕ) → 0 < kr → row < all → first + seg ≤ rg → row / kr * rg + first + seg ≤ ceil_div all kr * rg
below_groups row kr all rg first seg hk hr hs =
    let split : (row / kr + 1) * kr ≡ row / kr * kr + 1 * kr = add-mul (row / kr) 1 kr in
    let up : row / kr + 1 ≤ ceil_div all kr = le-div (row / kr + 1) (all + (kr - 1)) kr hk (omega (arith, div-mul-le_self row kr)) in
    let more : (row / kr + 1) * rg ≤ ceil_div all kr * rg = mul-le (row / kr + 1) rg (ceil_div all kr) rg up (omega arith) in
    omega (arith, add-mul (row / kr) 1 rg)

-- the last header ends before the payload does
headers_end : (q : List ℕ) → headers_cut q ≡ false → header q (headers q) ≤ payload_end q
headers_end q h =
    let a = or_parts (ltb (payload_end q) (header q 1) || (continues q 0 && ltb (payload_end q) (header q 2))) _ h in
    let b = or_parts (ltb (payload_end q) (header q 1)) (continues q 0 && ltb (payload_end q) (header q 2)) a.0 in
    go (continues q 0) (continues q 1) (ltb-false (payload_end q) (header q 1) b.0) b.1 a.1
  where
    go : (x y : Bool) → header q 1 ≤ payload_end q → (x && ltb (payload_end q) (header q 2)) ≡ false
        → (x && y && (ltb (payload_end q) (header q 3) || continues q 2)) ≡ false → header q (cond x (cond y 3 2) 1) ≤ payload_end q
    go true true one two three = ltb-false (payload_end q) (header q 3) (or_parts (ltb (payload_end q) (header q 3)) (continues q 2) three).0
    go true false one two three = ltb-false (payload_end q) (header q 2) two
    go false y one two three = one

-- the first segments have no more octets than all
lengths_up : (q : List ℕ) (i n : ℕ) → i < n → lengths q i + srd_length q i ≤ lengths q n
lengths_up q i zero h = absurd (omega arith)
lengths_up q i (suc n) h = go (lengths_up q i n)
  where
    go : (i < n → lengths q i + srd_length q i ≤ lengths q n) → lengths q i + srd_length q i ≤ lengths q n + srd_length q n
    go f = grind (arith, f)

module _ (t : Part) (law : LawfulKind t.format.kind) (v : Picture) (m q : List ℕ) (is_taken : taken t v m q ≡ true) where
  fails : (i : ℕ) → (get_or (offer_rows t v (length m) q) i (false, 0)).0 ≡ false
  fails i = row_fails (offer_rows t v (length m) q) i is_taken

  format_is : lawful_format t.format ≡ true
  format_is = not-false (lawful_format t.format) (fails 0)

  some_octets : 0 < (layout_of t.format).octets
  some_octets =
      ltb-true 0 (layout_of t.format).octets
      (and_parts _ _ (and_parts _ _ (and_parts _ _ (and_parts _ _ (and_parts _ _ format_is).0).0).0).0).0

  row_inside : (i : ℕ) → i < headers q → first_group t q i + segment_groups t q i ≤ row_groups t.format
  row_inside i h =
      let no-offset : bad_offset t q ≡ false = fails 9 in
      ltb-false _ _ (or_parts _ _ (none_below_at _ (headers q) no-offset i h)).1

  part_inside : (i : ℕ) → i < headers q → segment_start t q i + segment_groups t q i ≤ groups t
  part_inside i h =
      let no_row : bad_row t q ≡ false = fails 8 in
      let r : srd_row q i < rows t = leb-false (rows t) (srd_row q i) (or_parts _ _ (or_parts _ _ (none_below_at _ (headers q) no_row i h)).0).1 in
      below_groups (srd_row q i) t.format.kind.rows (rows t) (row_groups t.format) (first_group t q i) (segment_groups t q i)
      (law.at_depth t.format.depth some_octets).rows_range.0 r (row_inside i h)

  headers_in : data_start q ≤ payload_end q
  headers_in = let no_cut : headers_cut q ≡ false = fails 6 in headers_end q no_cut

  segments_in : data_start q + lengths q (headers q) ≤ payload_end q
  segments_in =
      let no_short : data_short q ≡ false = fails 11 in
      omega (arith, headers_in, ltb-false (data_octets q) (lengths q (headers q)) no_short)

  -- the segment that names a group
  held : (i g : ℕ) → segment_names t q i g ≡ true → (segment_start t q i ≤ g) × (g < segment_start t q i + segment_groups t q i)
  held i g h =
      let b = and_parts (leb (segment_start t q i) g) (ltb g (segment_start t q i + segment_groups t q i)) h in
      (leb-true (segment_start t q i) g b.0, ltb-true g (segment_start t q i + segment_groups t q i) b.1)

  pub named_below : (g : ℕ) → names t q g ≡ true → g < groups t
  named_below g h =
      let a = any_below_some (λ i. segment_names t q i g) (headers q) h in
      omega (arith, held a.0 g a.2, part_inside a.0 a.1)

  -- the octets of a group that it names, all there
  all_octets : (g : ℕ) → names t q g ≡ true → length (octets_of t q g) ≡ (layout_of t.format).octets
  all_octets g h =
      let o : ℕ = (layout_of t.format).octets in
      let test : ℕ → Bool = λ j. segment_names t q j g in
      let a = any_below_some test (headers q) h in
      let f = first_from_finds test (headers q) 0 a.0 (omega arith) (omega (arith, a.1)) a.2 in
      let i : ℕ = first_from 0 (headers q) test in
      let s : ℕ = segment_start t q i in
      let b = held i g f.1 in
      let up = lengths_up q i (headers q) (omega (arith, f.0, a.1)) in
      let here : (g - s + 1) * o ≤ segment_groups t q i * o = mul-le-mul_right o (omega (arith, b)) in
      let room : segment_groups t q i * o ≤ srd_length q i = div-mul-le_self (srd_length q i) o in
      let at : ℕ = data_start q + lengths q i + (g - s) * o in
      let end : at + o ≤ length q = omega (arith, segments_in, add-mul (g - s) 1 o) in
      simp (length-take, length-drop) (omega arith)

  pub readable : Readable t v m q
  readable =
      let six = or_parts (not (fits_part v t)) (ltb (length m) (map_octets t)) (fails 1) in
      let room : map_octets t ≤ length m = ltb-false (length m) (map_octets t) six.1 in
      let no_overrun : overrun q ≡ false = fails 4 in
      let start : payload_start q + padding q ≤ length q = ltb-false (length q) (payload_start q + padding q) (or_parts _ _ no_overrun).0 in
      record {
        allowed = format_is;
        fits = not-false (fits_part v t) six.0;
        mapped = omega arith;
        payload_inside = omega arith;
        headers_inside = headers_in;
        segments_inside = segments_in;
        in_row = row_inside;
        in_part = part_inside;
        names_inside = named_below;
        whole_groups = all_octets;
      }

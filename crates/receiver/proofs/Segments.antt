-- The segments of a packet, one after another: what a turn of the loop leaves, and the packet whole.
use Rattle.std.proofs.Common.{◌≡◌, ℕ, zero, suc, ◌+◌, ◌-◌, ◌*◌, ◌<◌, ◌≤◌, Bool, true, false, cond, not, ◌&&◌, ◌||◌, ltb, leb, List, [], ◌∷◌, map, length, take, drop, sym, refl, ap, ◌∙◌, subst, inl, inr, div-le_self, add-one, mul-le-mul_right, add-mul, one-mul, arith, lit≤, length-drop, length-take}
use Rattle.std.proofs.lemmas.List.{drop-take, take-take, drop-drop}
use Rattle.std.proofs.lemmas.Bool.{both_ways, cases_order, cond-true, cond-false, and_parts, leb-true, ltb-true}
use Rattle.packets.specs.Reading.{Placed, Carried, segment_at}
use Rattle.packets.specs.Segments.{segments_from}
use Rattle.std.specs.List.{range_with_len}
use Rattle.theory.specs.Octets.{AllOctets, bit, any_below, first_from}
use Rattle.theory.specs.Formats.{Part, layout_of, groups}
use Rattle.theory.specs.Pictures.{Picture}
use Rattle.theory.specs.Groups.{value_at, group_of}
use Rattle.theory.specs.Packets.{continues, headers, lengths, srd_length, srd_row, data_start, segment_groups}
use Rattle.theory.specs.Naming.{SoundNaming}
use Rattle.theory.specs.Taking.{segment_start, segment_names, names, octets_of, taken, sets, picture_after, map_after, set_count}
use Rattle.theory.proofs.Filling.{filled_same}
use Rattle.theory.proofs.Maps.{marked_same}
use Rattle.theory.proofs.Named.{count_same}
use Rattle.theory.proofs.Searches.{none_below_at}
use Rattle.receiver.specs.Filling.{GroupsPut, SegmentPut, InPart, clear_of, named, packet_value, run, run_value}
use Rattle.receiver.proofs.Puts.{none_put, more_put}

-- the first i segments of a packet were put into a picture v and a map m
abbrev pub PacketSoFar : Part → Picture → List ℕ → List ℕ → ℕ → Picture → List ℕ → ℕ → Type 0
PacketSoFar t v m q i now map count = GroupsPut t v m (named t q i) (packet_value t q) now map count × (count ≤ i * 65535)

pub packet_begins : (t : Part) (v : Picture) (m q : List ℕ) → AllOctets m → PacketSoFar t v m q 0 v m 0
packet_begins t v m q octets = (none_put t v m (named t q 0) (packet_value t q) octets (λ _. refl), omega arith)

pub few_headers : (q : List ℕ) → headers q ≤ 3
few_headers q = go (continues q 0) (continues q 1)
  where
    go : (x y : Bool) → cond x (cond y 3 2) 1 ≤ 3
    go true true = lit≤ tt
    go true false = lit≤ tt
    go false y = lit≤ tt

-- i segments were handed out, and these are left
pub record HandedOut (w : Carried) (i : ℕ) (left : List Placed) : Type 0 where
  pub few : i ≤ w.count
  pub those : left ≡ segments_from w i

-- one more, and none
pub one_handed_out : (w : Carried) (i : ℕ) (x : Placed) (left left' : List Placed) → HandedOut w i left → left ≡ x ∷ left'
    → (i < w.count) × (x ≡ w.segment i) × HandedOut w (i + 1) left'
one_handed_out w i x left left' out e = go (w.count - i) refl (sym out.those ∙ e)
  where
    go : (n : ℕ) → w.count - i ≡ n → map w.segment (range_with_len i n) ≡ x ∷ left' → (i < w.count) × (x ≡ w.segment i) × HandedOut w (i + 1) left'
    go zero h k = cc
    go (suc n) h k =
        let one : x ≡ w.segment i = cc in
        let more : left' ≡ map w.segment (range_with_len (i + 1) n) = cc in
        let those : n ≡ w.count - (i + 1) = omega arith in
        (omega arith, one, record { few = omega arith; those = more ∙ ap (λ j. map w.segment (range_with_len (i + 1) j)) those })

pub none_left : (w : Carried) (i : ℕ) (left : List Placed) → HandedOut w i left → left ≡ [] → i ≡ w.count
none_left w i left out e = go (w.count - i) refl (sym out.those ∙ e)
  where
    go : (n : ℕ) → w.count - i ≡ n → map w.segment (range_with_len i n) ≡ [] → i ≡ w.count
    go zero h k = omega (arith, out.few)
    go (suc n) h k = cc

-- a search that meets the first number that passes ends there
first_is : (f : ℕ → Bool) (n a i : ℕ) → a ≤ i → i < a + n → f i ≡ true → ((j : ℕ) → j < i → f j ≡ false) → first_from a n f ≡ i
first_is f zero a i l u e none = absurd (omega arith)
first_is f (suc n) a i l u e none = elim (cases_order a i) [
  | inl same ↦ cond-true (f a) a (first_from (a + 1) n f) (ap f same ∙ e) ∙ same
  | inr (inl less) ↦ cond-false (f a) a (first_from (a + 1) n f) (none a less) ∙ first_is f n (a + 1) i (omega arith) (omega arith) e none
  | inr (inr more) ↦ absurd (omega arith)
]

-- a part of a part
part_of_part : (q : List ℕ) (at len d o : ℕ) → d + o ≤ len → take o (drop d (take len (drop at q))) ≡ take o (drop (at + d) q)
part_of_part q at len d o h =
    let e : len ≡ d + (len - d) = omega arith in
    ap (λ n. take o (drop d (take n (drop at q)))) e
    ∙ ap (take o) (drop-take d (len - d) (drop at q))
    ∙ take-take o (len - d) (drop d (drop at q)) (omega arith)
    ∙ ap (take o) (drop-drop d at q)

-- group i of n, of o octets each, lies in the segment
room : (i n o size : ℕ) → i < n → n * o ≤ size → i * o + o ≤ size
room i n o size h k =
    let most : (i + 1) * o ≤ n * o = mul-le-mul_right o (omega arith) in
    omega (arith, add-mul i 1 o, one-mul o)

module _ (t : Part) (q : List ℕ) (w : SoundNaming t q) (i : ℕ) (here : i < headers q) (x : Placed) (is : x ≡ segment_at t q i) where
  length_here : length (take (srd_length q i) (drop (data_start q + lengths q i) q)) ≡ srd_length q i
  length_here = simp (length-take, length-drop) (omega (arith, w.segment_inside i here))

  pub segment_fits : InPart t x
  segment_fits = subst (InPart t) (sym is) (record {
    whole = omega (arith, w.whole_segments i here, length_here);
    row = omega (arith, div-le_self (srd_row q i) t.format.kind.rows);
    in_row = w.in_row i here;
    in_part = w.in_part i here;
  })

  -- the octets of a group that no segment before names
  octets_there : (g : ℕ) → run (segment_start t q i) (segment_groups t q i) g ≡ true → named t q i g ≡ false
      → take (layout_of t.format).octets (drop ((g - segment_start t q i) * (layout_of t.format).octets) (segment_at t q i).octets) ≡ octets_of t q g
  octets_there g inside none =
      let o = (layout_of t.format).octets in
      let s = segment_start t q i in
      let f : ℕ → Bool = λ j. segment_names t q j g in
      let p = and_parts (leb s g) (ltb g (s + segment_groups t q i)) inside in
      let low : s ≤ g = leb-true s g p.0 in
      let high : g < s + segment_groups t q i = ltb-true g (s + segment_groups t q i) p.1 in
      let at : first_from 0 (headers q) f ≡ i = first_is f (headers q) 0 i (omega arith) (omega arith) inside (none_below_at f i none) in
      part_of_part q (data_start q + lengths q i) (srd_length q i) ((g - s) * o) o
      (room (g - s) (segment_groups t q i) o (srd_length q i) (omega arith) (omega (arith, w.whole_segments i here)))
      ∙ ap (λ j. take o (drop (data_start q + lengths q j + (g - segment_start t q j) * o) q)) (sym at)

  pub packet_takes : (v : Picture) (m : List ℕ) → groups t ≤ 8 * length m → (now : Picture) (map : List ℕ) (count : ℕ) → PacketSoFar t v m q i now map count
      → (now' : Picture) (map' : List ℕ) (r : ℕ) → SegmentPut t now map x now' map' r
      → r ≤ 65535 → PacketSoFar t v m q (i + 1) now' map' (count + r)
  packet_takes v m mapped now map count so_far now' map' r put few =
      let s = segment_start t q i in
      let n = segment_groups t q i in
      let there = subst (λ y. SegmentPut t now map y now' map' r) is put in
      let below : (g : ℕ) → run s n g ≡ true → g < 8 * length m = λ g z.
      let high : g < s + n = ltb-true g (s + n) (and_parts (leb s g) (ltb g (s + n)) z).1 in
      omega (arith, w.in_part i here) in
      let value : (g k : ℕ) → run s n g ≡ true → named t q i g ≡ false → run_value t (segment_at t q i).octets s g k ≡ packet_value t q g k = λ g k a b.
      ap (λ y. value_at (layout_of t.format) t.format.depth y k) (octets_there g a b) in (
        more_put t v m (named t q i) (packet_value t q) now map count so_far.0 (named t q (i + 1)) (run s n)
            (run_value t (segment_at t q i).octets s) now' map' r below there value
            (λ g. ap (λ y. any_below y (λ j. segment_names t q j g)) (add-one i)),
        omega (arith, so_far.1),
      )

-- the packet whole
set_now : (y n b : Bool) → y ≡ true → (n && not b) ≡ (y && n && not b)
set_now true n b h = refl
set_now false n b h = absurd (both_ways false refl h)

marked_now : (y n b : Bool) → y ≡ true → (b || n) ≡ (b || (y && n && not b))
marked_now true n true h = refl
marked_now true true false h = refl
marked_now true false false h = refl
marked_now false n b h = absurd (both_ways false refl h)

pub packet_ends : (t : Part) (v : Picture) (m q : List ℕ) → taken t v m q ≡ true → (now : Picture) (map : List ℕ) (count : ℕ)
    → PacketSoFar t v m q (headers q) now map count
    → (now ≡ picture_after t v m q) × (map ≡ map_after t v m q) × (count ≡ set_count t v m q)
packet_ends t v m q is_taken now map count all = (
  all.0.picture
      ∙ filled_same t v (λ h _. clear_of m (names t q) h) (λ h _. sets t v m q h) (packet_value t q) (packet_value t q)
      (λ p r c _. let g = group_of t p r c in set_now (taken t v m q) (names t q g) (bit m g) is_taken) (λ _ _ _. refl),
  all.0.bits ∙ marked_same m (names t q) (sets t v m q) (λ k _. marked_now (taken t v m q) (names t q k) (bit m k) is_taken),
  all.0.number ∙ count_same (groups t) (clear_of m (names t q)) (sets t v m q) (λ k _. set_now (taken t v m q) (names t q k) (bit m k) is_taken),
)

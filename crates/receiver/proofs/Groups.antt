-- The groups of a segment, one after another: what a turn of the loop leaves.
use Rattle.std.proofs.Common.{◌≡◌, ℕ, ◌+◌, ◌-◌, ◌*◌, ◌<◌, ◌≤◌, true, false, ◌||◌, eqb, List, ◌++◌, length, take, drop, sym, ap, ◌∙◌, ap₂, mul-le-mul_right, add-mul, one-mul, zero-mul, arith, length-append, length-drop}
use Rattle.std.proofs.lemmas.Bool.{eqb-true}
use Rattle.std.proofs.lemmas.Bool.Decides.{nat_tests}
use Rattle.std.proofs.lemmas.List.{take_at, drop_at, drop-drop}
use Rattle.std.proofs.Math.Nat.{le_of_mul-le-mul_right, lt_of_mul-lt-mul_right}
use Rattle.packets.specs.Reading.{Placed}
use Rattle.theory.specs.Octets.{AllOctets, bit, marked}
use Rattle.theory.specs.Formats.{Part, layout_of, row_groups, groups}
use Rattle.theory.specs.Pictures.{Picture}
use Rattle.theory.specs.Groups.{filled, value_at}
use Rattle.receiver.specs.Filling.{GroupsPut, InPart, start_of, group_value, run, run_value}
use Rattle.receiver.proofs.Puts.{none_put, one_put, none_more, more_put}

run_none : (s g : ℕ) → run s 0 g ≡ false
run_none s g = grind (arith, nat_tests)

run_more : (s i n g : ℕ) → n ≡ s + i → run s (i + 1) g ≡ (eqb g n || run s i g)
run_more s i n g e = grind (arith, nat_tests)

-- group after group of o octets is taken off a segment: the first i are behind, and these octets are ahead
pub record Ahead (t : Part) (m : List ℕ) (x : Placed) (i o : ℕ) (rest : List ℕ) : Type 0 where
  pub inside : InPart t x
  pub mapped : groups t ≤ 8 * length m
  pub some : 0 < o
  pub size : o ≡ (layout_of t.format).octets
  pub few : i ≤ x.groups
  pub octets : rest ≡ drop (i * o) x.octets

left : {t : Part} {m : List ℕ} {x : Placed} {i o : ℕ} {rest : List ℕ} → Ahead t m x i o rest → length rest ≡ x.groups * o - i * o
left {x = x} {i = i} {o = o} w =
    ap length w.octets ∙ length-drop (i * o) x.octets ∙ ap (λ k. k - i * o) (w.inside.whole ∙ ap (λ k. x.groups * k) (sym w.size))

pub all_ahead : {t : Part} {m : List ℕ} {x : Placed} {o : ℕ} {rest : List ℕ} → InPart t x → groups t ≤ 8 * length m → 0 < (layout_of t.format).octets
    → o ≡ (layout_of t.format).octets → rest ≡ x.octets → Ahead t m x 0 o rest
all_ahead {x = x} {o = o} inside mapped some size all = record {
  inside = inside;
  mapped = mapped;
  some = omega arith;
  size = size;
  few = omega arith;
  octets = all ∙ ap (λ k. drop k x.octets) (sym (zero-mul o));
}

-- a turn takes group j off, which is the next one
pub record Turn (t : Part) (m : List ℕ) (x : Placed) (i j : ℕ) (octets : List ℕ) (i' o' : ℕ) (rest' : List ℕ) : Type 0 where
  pub same : j ≡ i
  pub within : i < x.groups
  pub below : start_of t x + i < groups t
  pub whole : length octets ≡ (layout_of t.format).octets
  pub piece : octets ≡ take (layout_of t.format).octets (drop (i * (layout_of t.format).octets) x.octets)
  pub next : Ahead t m x i' o' rest'

pub group_taken : {t : Part} {m : List ℕ} {x : Placed} {i j i' o o' : ℕ} {octets rest rest' : List ℕ} → Ahead t m x i o rest
    → o' ≡ o → (rest ≡ octets ++ rest') × (length octets ≡ o) → j ≡ i → i' ≡ i + 1 → Turn t m x i j octets i' o' rest'
group_taken {x = x} {i = i} {o = o} {octets = octets} {rest' = rest'} w eo cut ej ei =
    let long : o ≤ length (octets ++ rest') = omega (arith, cut.1, length-append octets rest') in
    let room : length (octets ++ rest') ≡ x.groups * o - i * o = ap length (sym cut.0) ∙ left w in
    let next : i * o + o ≡ (i + 1) * o = omega (arith, add-mul i 1 o, one-mul o) in
    let few : i + 1 ≤ x.groups = let h : (i + 1) * o ≤ x.groups * o = omega (arith, w.some) in le_of_mul-le-mul_right h w.some in
    let now : octets ++ rest' ≡ drop (i * o) x.octets = sym cut.0 ∙ w.octets in
    record {
      same = ej;
      within = omega arith;
      below = omega (arith, w.inside.in_part);
      whole = cut.1 ∙ w.size;
      piece = sym (take_at octets rest' o cut.1) ∙ ap (take o) now ∙ ap (λ k. take k (drop (i * k) x.octets)) w.size;
      next = record {
        inside = w.inside;
        mapped = w.mapped;
        some = omega (arith, w.some);
        size = eo ∙ w.size;
        few = omega arith;
        octets = sym (drop_at octets rest' o cut.1) ∙ ap (drop o) now ∙ drop-drop o (i * o) x.octets
            ∙ ap (λ k. drop k x.octets) (next ∙ sym (ap₂ (λ k n. k * n) ei eo));
      };
    }

pub none_ahead : {t : Part} {m : List ℕ} {x : Placed} {i o : ℕ} {rest : List ℕ} → Ahead t m x i o rest → length rest < o → i ≡ x.groups
none_ahead {x = x} {i = i} {o = o} w short =
    let h : i * o ≤ x.groups * o = mul-le-mul_right o w.few in
    let k : x.groups * o < (i + 1) * o = omega (arith, left w, add-mul i 1 o, one-mul o) in
    let more : x.groups < i + 1 = lt_of_mul-lt-mul_right o k in
    omega (arith, w.few)

-- the number of group i, as the code has it
pub number_is : (t : Part) (x : Placed) (r i j : ℕ) → r ≡ row_groups t.format → j ≡ i → x.unit_row * r + x.first_group + j ≡ start_of t x + i
number_is t x r i j e k = ap₂ (λ a b. x.unit_row * a + x.first_group + b) e k

-- the first i groups from s on, of a segment's octets, were put into a picture v and a map m
abbrev pub SegmentSoFar : Part → Picture → List ℕ → List ℕ → ℕ → ℕ → Picture → List ℕ → ℕ → Type 0
SegmentSoFar t v m os s i now map count = GroupsPut t v m (run s i) (run_value t os s) now map count × (count ≤ i)

pub segment_begins : (t : Part) (v : Picture) (m os : List ℕ) (s : ℕ) → AllOctets m → SegmentSoFar t v m os s 0 v m 0
segment_begins t v m os s octets = (none_put t v m (run s 0) (run_value t os s) octets (run_none s), omega arith)

module _ (t : Part) (v : Picture) (m os : List ℕ) (s i : ℕ) (now : Picture) (map : List ℕ) (count n : ℕ)
    (so_far : SegmentSoFar t v m os s i now map count) (number : n ≡ s + i) (below : s + i < groups t) (mapped : groups t ≤ 8 * length m) where
  pub segment_puts : (n' : ℕ) (now' : Picture) (map' piece : List ℕ) → n' ≡ s + i → bit map n ≡ false
      → piece ≡ take (layout_of t.format).octets (drop (i * (layout_of t.format).octets) os)
      → now' ≡ filled t now (λ g _. eqb g n') (group_value t piece) → map' ≡ marked map (λ g. eqb g n)
      → SegmentSoFar t v m os s (i + 1) now' map' (count + 1)
  segment_puts n' now' map' piece number' clear is ep em =
      let o = (layout_of t.format).octets in
      let e = group_value t piece in
      let same : n' ≡ n = number' ∙ sym number in
      let one = one_put t now map n e now' map' (omega arith) clear (ep ∙ ap (λ x. filled t now (λ g _. eqb g x) e) same) em in
      let value : (g k : ℕ) → eqb g n ≡ true → run s i g ≡ false → e g k ≡ run_value t os s g k = λ g k h _.
      let from_s : i ≡ g - s = omega (arith, eqb-true g n h) in
      ap (λ x. value_at (layout_of t.format) t.format.depth x k) (is ∙ ap (λ j. take o (drop (j * o) os)) from_s) in (
        more_put t v m (run s i) (run_value t os s) now map count so_far.0 (run s (i + 1)) (λ g. eqb g n) e now' map' 1
            (λ g h. omega (arith, eqb-true g n h)) one value (λ g. run_more s i n g number),
        omega (arith, so_far.1),
      )

  pub segment_passes : bit map n ≡ true → SegmentSoFar t v m os s (i + 1) now map count
  segment_passes set = (
    none_more t v m (run s i) (run_value t os s) now map count so_far.0 (run s (i + 1)) n (omega arith) set (λ g. run_more s i n g number),
    omega (arith, so_far.1),
  )

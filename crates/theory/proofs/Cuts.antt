-- What a cut gives: one to three segments in a chain, of so many octets together.
use Rattle.std.proofs.Common.{◌≡◌, ℕ, zero, suc, ◌+◌, ◌-◌, ◌*◌, ◌/◌, ◌%◌, ◌<◌, ◌≤◌, min, ◌&&◌, eqb, ltb, ◌⊎◌, List, [], ◌∷◌, length, sym, refl, ap, ◌∙◌, subst, inl, inr, ⊎_elim, not-suc-le-zero, mul-le-mul_right, mul_assoc, mul_comm, add-mul, div-add-mod', zero-mul, div-mul-le_self, add-one, arith}
use native.Mathlib.Nat.{mul-mod_left, mul-sub}
use Rattle.std.proofs.lemmas.Bool.{cases_lt, cond_both, cond-true, and_parts, and_from, and_cases, ltb-true, ltb-false, lt-ltb, eqb-true, eqb-false}
use Rattle.std.proofs.lemmas.Nat.{le-div, mod_below}
use Rattle.theory.specs.Formats.{Part, layout_of, row_groups, groups}
use Rattle.theory.specs.Cutting.{Segment, row_rest, segments_from, cut, cut_groups}
use Rattle.theory.proofs.Limits.{Limits}
use Rattle.theory.proofs.Positions.{few_octets}
use Rattle.theory.proofs.Chains.{Chain}

-- a chain of at most n segments, whose headers (of p octets each) and data fit in the space
pub record CutFits (t : Part) (p n space g : ℕ) (ss : List Segment) : Type 0 where
  pub chain : Chain t g ss
  pub few : length ss ≤ n
  pub short : p * length ss + cut_groups ss * (layout_of t.format).octets ≤ space

none_fits : (t : Part) (p n space g : ℕ) → CutFits t p n space g []
none_fits t p n space g = record { chain = tt; few = omega arith; short = omega (arith, zero-mul (layout_of t.format).octets) }

-- one more segment in front, of k groups
more_fits : (t : Part) → Limits t → (p n space g k : ℕ) (ss : List Segment) → g < groups t → 0 < k → k ≤ row_rest t g
    → p + k * (layout_of t.format).octets ≤ space
    → CutFits t p n (space - p - k * (layout_of t.format).octets) (g + k) ss → CutFits t p (suc n) space g (record { first = g; count = k } ∷ ss)
more_fits t w p n space g k ss h pos le room c =
    let o : ℕ = (layout_of t.format).octets in
    let R : ℕ = row_groups t.format in
    let low : g % R < R = mod_below g R w.row_pos in
    record {
      chain = (refl, pos, h, omega arith, c.chain);
      few = omega (arith, c.few);
      short = omega (
        arith,
        c.short,
        add-mul k (cut_groups ss) o,
        mul_comm p (suc (length ss)),
        ap (λ x. x * p) (add-one (length ss)),
        add-mul (length ss) 1 p,
        mul_comm p (length ss),
      );
    }

pub segments_fit : (t : Part) → Limits t → (p n space g : ℕ) → CutFits t p n space g (segments_from t p n space g)
segments_fit t w p zero space g = none_fits t p zero space g
segments_fit t w p (suc n) space g =
    let o : ℕ = (layout_of t.format).octets in
    let a : ℕ = (space - p) / o in
    let R : ℕ = row_groups t.format in
    let k : ℕ = min a (row_rest t g) in
    cond_both (ltb g (groups t) && ltb 0 a) (record { first = g; count = k } ∷ segments_from t p n (space - p - k * o) (g + k)) []
    (CutFits t p (suc n) space g)
    (λ e.
    let b = and_parts (ltb g (groups t)) (ltb 0 a) e in
    let a-pos : 0 < a = ltb-true 0 a b.1 in
    let low : g % R < R = mod_below g R w.row_pos in
    let k-le : k ≤ a = omega arith in
    let m : k * o ≤ a * o = mul-le-mul_right o k-le in
    let one : 1 * o ≤ a * o = mul-le-mul_right o a-pos in
    let room : p + k * o ≤ space = omega (arith, div-mul-le_self (space - p) o, w.octets_pos) in
    more_fits t w p n space g k (segments_from t p n (space - p - k * o) (g + k)) (ltb-true g (groups t) b.0) (omega arith)
    (omega arith) room (segments_fit t w p n (space - p - k * o) (g + k)))
    (λ e. none_fits t p (suc n) space g)

-- the groups that n segments from g on can hold
abbrev cap : Part → ℕ → ℕ → ℕ
cap t zero g = 0
cap t (suc n) g = row_rest t g + n * row_groups t.format

-- from the start of a unit row, n segments can hold n rows
cap_at_row : (t : Part) (n g : ℕ) → g % row_groups t.format ≡ 0 → cap t n g ≡ n * row_groups t.format
cap_at_row t zero g e = sym (zero-mul (row_groups t.format))
cap_at_row t (suc n) g e = let R : ℕ = row_groups t.format in omega (arith, ap (λ x. x * R) (add-one n), add-mul n 1 R)

-- the end of a unit row
row_end : (t : Part) → Limits t → (g : ℕ) → (g + row_rest t g) % row_groups t.format ≡ 0
row_end t w g =
    let R : ℕ = row_groups t.format in
    let low : g % R < R = mod_below g R w.row_pos in
    let e : g + (R - g % R) ≡ (g / R + 1) * R = omega (arith, div-add-mod' g R, add-mul (g / R) 1 R) in
    ap (λ x. x % R) e ∙ mul-mod_left (g / R + 1) R

-- a multiple less a multiple
sub_multiple : (a k o : ℕ) → a % o ≡ 0 → (a - k * o) % o ≡ 0
sub_multiple a k o e =
    let x : a ≡ a / o * o = omega (arith, div-add-mod' a o) in
    ap (λ y. (y - k * o) % o) x ∙ ap (λ y. y % o)
    (sym (mul_comm (a / o - k) o ∙ mul-sub o (a / o) k ∙ cc (mul_comm o (a / o), mul_comm o k))) ∙ mul-mod_left (a / o - k) o

-- segments without headers fill their space, unless the part ends
pub space_filled : (t : Part) → Limits t → (n space g : ℕ) → space % (layout_of t.format).octets ≡ 0
    → space ≤ cap t n g * (layout_of t.format).octets
    → g + cut_groups (segments_from t 0 n space g) < groups t
    → cut_groups (segments_from t 0 n space g) * (layout_of t.format).octets ≡ space
space_filled t w zero space g e room = λ l. let o : ℕ = (layout_of t.format).octets in omega (arith, zero-mul o)
space_filled t w (suc n) space g e room =
    let o : ℕ = (layout_of t.format).octets in
    let R : ℕ = row_groups t.format in
    let a : ℕ = (space - 0) / o in
    let k : ℕ = min a (row_rest t g) in
    let all : space - 0 ≡ space = omega arith in
    let e₀ : (space - 0) % o ≡ 0 = ap (λ x. x % o) all ∙ e in
    let whole : a * o ≡ space = omega (arith, div-add-mod' (space - 0) o) in
    let low : g % R < R = mod_below g R w.row_pos in
    cond_both (ltb g (groups t) && ltb 0 a) (record { first = g; count = k } ∷ segments_from t 0 n (space - 0 - k * o) (g + k)) []
    (λ ss. g + cut_groups ss < groups t → cut_groups ss * o ≡ space)
    (λ b l.
    let rest : ℕ = cut_groups (segments_from t 0 n (space - 0 - k * o) (g + k)) in
    let split : (k + rest) * o ≡ k * o + rest * o = add-mul k rest o in
    ⊎_elim
    (λ (small : a < row_rest t g).
    let is : k ≡ a = omega arith in
    let is' : k * o ≡ a * o = ap (λ x. x * o) is in
    let short = (segments_fit t w 0 n (space - 0 - k * o) (g + k)).short in
    omega arith)
    (λ (big : row_rest t g ≤ a).
    let is : k ≡ row_rest t g = omega arith in
    let le : k * o ≤ a * o = mul-le-mul_right o (omega arith) in
    let at_row : (g + k) % R ≡ 0 = ap (λ x. (g + x) % R) is ∙ row_end t w g in
    let cap-is : cap t n (g + k) * o ≡ n * R * o = ap (λ x. x * o) (cap_at_row t n (g + k) at_row) in
    let room' : space - 0 - k * o ≤ cap t n (g + k) * o = omega (arith, room, add-mul (row_rest t g) (n * R) o, ap (λ x. x * o) is) in
    let full = space_filled t w n (space - 0 - k * o) (g + k) (sub_multiple (space - 0) k o e₀) room' (omega arith) in
    omega arith)
    (cases_lt a (row_rest t g)))
    (λ b l. ⊎_elim (λ c. absurd (not-suc-le-zero {n = g} (omega (arith, ltb-false g (groups t) c))))
    (λ c. omega (arith, ltb-false 0 a c, zero-mul o, ap (λ x. x * o) (none (ltb-false 0 a c)))) (and_cases (ltb g (groups t)) (ltb 0 a) b))
  where
    none : {x : ℕ} → x ≤ 0 → x ≡ 0
    none h = omega arith

-- a packet's cut
pub record CutGood (t : Part) (g : ℕ) (ss : List Segment) : Type 0 where
  pub chain : Chain t g ss
  pub some : 1 ≤ length ss
  pub few : length ss ≤ 3
  pub short : 6 * length ss + cut_groups ss * (layout_of t.format).octets ≤ 1438
  pub blocks : t.format.mode ≡ 2 → g + cut_groups ss < groups t → (cut_groups ss * (layout_of t.format).octets) % 180 ≡ 0

-- a cut that has room takes a segment
takes_some : (t : Part) (p n space g : ℕ) → g < groups t → 0 < (space - p) / (layout_of t.format).octets
    → 1 ≤ length (segments_from t p (suc n) space g)
takes_some t p n space g h r =
    let a : ℕ = (space - p) / (layout_of t.format).octets in
    subst (λ ss. 1 ≤ length ss) (sym (cond-true (ltb g (groups t) && ltb 0 a) _ _ (and_from _ _ (lt-ltb g (groups t) h) (lt-ltb 0 a r))))
    (omega arith)

pub cut_good : (t : Part) → Limits t → (g : ℕ) → g < groups t → CutGood t g (cut t g)
cut_good t w g h =
    cond_both (eqb t.format.mode 2) (segments_from t 0 3 1260 g) (segments_from t 6 3 1438 g) (CutGood t g)
    (λ e.
    let b = segments_fit t w 0 3 1260 g in
    let mode : t.format.mode ≡ 2 = eqb-true t.format.mode 2 e in
    record {
      chain = b.chain;
      some = takes_some t 0 2 1260 g h (le-div 1 1260 (layout_of t.format).octets w.octets_pos
          (omega (arith, few_octets t.format.kind t.format.depth w.layout)));
      few = b.few;
      short = omega (arith, b.short, b.few);
      blocks = λ _ l. ap (λ x. x % 180) (space_filled t w 3 1260 g (by_180 w.modes mode) (roomy w.modes mode) l);
    })
    (λ e.
    let b = segments_fit t w 6 3 1438 g in
    record {
      chain = b.chain;
      some = takes_some t 6 2 1438 g h (le-div 1 1432 (layout_of t.format).octets w.octets_pos
          (omega (arith, few_octets t.format.kind t.format.depth w.layout)));
      few = b.few;
      short = b.short;
      blocks = λ two _. absurd (eqb-false t.format.mode 2 e two);
    })
  where
    o : ℕ
    o = (layout_of t.format).octets

    R : ℕ
    R = row_groups t.format

    by_180 : (t.format.mode ≡ 1) ⊎ ((t.format.mode ≡ 2) × (180 % o ≡ 0) × (630 ≤ R * o)) → t.format.mode ≡ 2 → 1260 % o ≡ 0
    by_180 (inl a) e = absurd (not-suc-le-zero {n = 0} (omega arith))
    by_180 (inr a) e =
        let x : 1260 ≡ 7 * (180 / o) * o = omega (arith, div-add-mod' 180 o, a.1, mul_assoc 7 (180 / o) o) in
        ap (λ y. y % o) x ∙ mul-mod_left (7 * (180 / o)) o

    roomy : (t.format.mode ≡ 1) ⊎ ((t.format.mode ≡ 2) × (180 % o ≡ 0) × (630 ≤ R * o)) → t.format.mode ≡ 2
        → 1260 ≤ (row_rest t g + 2 * R) * o
    roomy (inl a) e = absurd (not-suc-le-zero {n = 0} (omega arith))
    roomy (inr a) e = omega (arith, add-mul (row_rest t g) (2 * R) o, mul_assoc 2 R o, a.2)

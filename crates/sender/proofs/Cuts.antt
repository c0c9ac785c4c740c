-- The segments of a packet, one after another.
use Rattle.std.proofs.Common.{◌≡◌, ℕ, zero, suc, ◌+◌, ◌-◌, ◌*◌, ◌/◌, ◌%◌, ◌^◌, ◌<◌, ◌≤◌, min, ◌&&◌, eqb, ltb, ◌⊎◌, List, [], ◌∷◌, length, sym, refl, ap, ◌∙◌, subst, inl, inr, ⊎_elim, add-mul, arith}
use Rattle.std.proofs.lemmas.Nat.{mul-le}
use Rattle.std.proofs.lemmas.Bool.{cond-true, cond-false, cond_both, and_from, and_left, and_right, lt-ltb, le-ltb}
use Rattle.theory.specs.Formats.{Part, layout_of, row_groups, groups}
use Rattle.theory.specs.Cutting.{Segment, segments_from, cut, cut_groups}
use Rattle.theory.proofs.Chains.{Chain}
use Rattle.theory.proofs.Cuts.{CutFits, segments_fit}
use Rattle.theory.proofs.Limits.{Limits}
use Rattle.sender.proofs.Sizes.{few_groups}

-- the numbers of a part
module _ (t : Part) {o R G : ℕ} (eo : o ≡ (layout_of t.format).octets) (eR : R ≡ row_groups t.format) (eG : G ≡ groups t) where
  -- a segment more
  pub segments_some : (p m left g k : ℕ) → 0 < m → g < G → 0 < (left - p) / o → k ≡ min ((left - p) / o) (R - g % R)
      → segments_from t p m left g ≡ record { first = g; count = k } ∷ segments_from t p (m - 1) (left - (p + k * o)) (g + k)
  segments_some p zero left g k pos inside room is = absurd (omega arith)
  segments_some p (suc n) left g k pos inside room is =
      let w : ℕ = (layout_of t.format).octets in
      let some : 0 < (left - p) / w = subst (λ x. 0 < (left - p) / x) eo room in
      let in_part : g < groups t = omega arith in
      let F : ℕ → List Segment = λ j. record { first = g; count = j } ∷ segments_from t p n (left - p - j * w) (g + j) in
      let count : min ((left - p) / w) (row_groups t.format - g % row_groups t.format) ≡ k =
      sym (is ∙ ap (λ x. min ((left - p) / x) (R - g % R)) eo ∙ ap (λ x. min ((left - p) / w) (x - g % x)) eR) in
      let less : left - p - k * w ≡ left - (p + k * w) = omega arith in
      cond-true (ltb g (groups t) && ltb 0 ((left - p) / w)) _ _
      (and_from _ _ (lt-ltb g (groups t) in_part) (lt-ltb 0 ((left - p) / w) some))
      ∙ ap F count
      ∙ ap (λ x. record { first = g; count = k } ∷ segments_from t p n x (g + k)) less
      ∙ ap (λ x. record { first = g; count = k } ∷ segments_from t p n (left - (p + k * x)) (g + k)) (sym eo)
      ∙ ap (λ x. record { first = g; count = k } ∷ segments_from t p x (left - (p + k * o)) (g + k)) (let e : n ≡ suc n - 1 = omega arith in e)

  -- and none
  pub segments_none : (p m left g : ℕ) → (m ≡ 0) ⊎ ((G ≤ g) ⊎ ((left - p) / o ≡ 0)) → segments_from t p m left g ≡ []
  segments_none p zero left g h = refl
  segments_none p (suc n) left g h =
      let w : ℕ = (layout_of t.format).octets in
      cond-false (ltb g (groups t) && ltb 0 ((left - p) / w)) _ _
      (⊎_elim
      (λ (none : suc n ≡ 0). absurd (omega arith))
      (λ r. ⊎_elim
      (λ past. and_left _ _ (le-ltb g (groups t) (omega (arith, past))))
      (λ (short : (left - p) / o ≡ 0).
      let zero : (left - p) / w ≡ 0 = ap (λ x. (left - p) / x) (sym eo) ∙ short in
      and_right (ltb g (groups t)) (ltb 0 ((left - p) / w)) (le-ltb 0 ((left - p) / w) (omega arith)))
      r)
      h)

module _ {t : Part} (w : Limits t) where
  -- a segment that is to come begins inside the part, and its data is short enough for its header
  pub head_fits : (p n space g : ℕ) {a : Segment} {ss : List Segment} → segments_from t p n space g ≡ a ∷ ss → space ≤ 1438
      → (a.first < groups t) × (a.count * (layout_of t.format).octets < 65536)
  head_fits p n space g {a} {ss} e small =
      let f = subst (CutFits t p n space g) e (segments_fit t w p n space g) in
      (rw f.chain.0 f.chain.2, omega (arith, f.short, add-mul a.count (cut_groups ss) (layout_of t.format).octets))

  -- a packet has three segments at most, which follow one another, and their data is short
  pub record Short (g : ℕ) (ss : List Segment) : Type 0 where
    pub chain : Chain t g ss
    pub few : length ss ≤ 3
    pub octets : cut_groups ss * (layout_of t.format).octets ≤ 1438

  pub cut_short : (g : ℕ) → Short g (cut t g)
  cut_short g =
      cond_both (eqb t.format.mode 2) (segments_from t 0 3 1260 g) (segments_from t 6 3 1438 g) (Short g)
      (λ _. let b = segments_fit t w 0 3 1260 g in record { chain = b.chain; few = b.few; octets = omega (arith, b.short) })
      (λ _. let b = segments_fit t w 6 3 1438 g in record { chain = b.chain; few = b.few; octets = omega (arith, b.short) })

  pub few_in_cut : (g : ℕ) → cut_groups (cut t g) ≤ 1438
  few_in_cut g =
      let n : ℕ = cut_groups (cut t g) in
      omega (arith, (cut_short g).octets, mul-le n 1 n (layout_of t.format).octets (omega arith) w.octets_pos)

  -- a cut takes no groups, or begins inside the part: so the group behind it, and each of its groups, is a small number, or it has none
  pub near_or_none : (g : ℕ) → (cut_groups (cut t g) ≡ 0) ⊎ (g + cut_groups (cut t g) < 2 ^ 32)
  near_or_none g = elim (some_or_none (cut t g) (cut_short g).chain) [
    | inl e ↦ inl e
    | inr h ↦ inr (omega (arith, few_in_cut g, few_groups w))
  ]
    where
      some_or_none : (ss : List Segment) → Chain t g ss → (cut_groups ss ≡ 0) ⊎ (g < groups t)
      some_or_none [] c = inl refl
      some_or_none (s ∷ ss) c = inr c.2

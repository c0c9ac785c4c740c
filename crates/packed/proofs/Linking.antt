-- A grid that copies a part: it has the part's packed picture, and it is sound where the part's kind has the laws.
use Rattle.std.proofs.Common.{◌≡◌, ℕ, ◌+◌, ◌-◌, ◌*◌, ◌/◌, ◌%◌, ◌<◌, ◌≤◌, false, cond, not, ◌&&◌, eqb, ltb, List, length, sym, ap, ◌∙◌, subst, ap₂, inl, inr, mul_assoc, add-mul, mul-pos, one-mul, arith}
use mathlib.Core.Path.{fun_ext}
use Rattle.std.proofs.lemmas.Nat.{mul-le, div-mul-add, mod-mul-add}
use Rattle.std.proofs.lemmas.Bool.{cases_Bool, cond-false, le-ltb, ltb-true, and_from, and_parts, eq-eqb}
use Rattle.std.proofs.lemmas.Bool.Decides.{nat_tests}
use Rattle.theory.specs.Octets.{AllOctets, first_from}
use Rattle.theory.specs.Layouts.{LawfulLayout, group_width, group_height}
use Rattle.theory.specs.Formats.{Part, layout_of, groups, plane_width, plane_height}
use Rattle.theory.specs.Groups.{group_of, position_in_group, place_row, place_column}
use Rattle.theory.specs.Pictures.{Picture, with_samples}
use Rattle.theory.proofs.Places.{group_height_pos, group_width_pos, group_inside, sample_of_place}
use Rattle.packed.specs.declared.grid.Grid.{Grid}
use Rattle.packed.specs.BitRuns.{bit_at, run_at}
use Rattle.packed.specs.Packs.{Covered, packed_picture, bit_of, bit_beside}
use Rattle.packed.proofs.Samples.{group_sample}
use Rattle.packed.specs.Grids.{width_at, height_at, first_bit, grid_picture, bit_plane, bit_row, bit_column, grid_beside, Copies, Within, Owned, NoneBehind, Sound}

-- a run of d bits after another
next_run : (w t d : ℕ) → w < t → w * d + d ≤ t * d
next_run w t d h = omega (arith, mul-le (w + 1) d t d (omega arith) (omega arith), add-mul w 1 d, one-mul d)

-- where place (G, K) lies among groups of n positions of d bits: b bits a group
module _ (G K n d b groups : ℕ) (bits : b ≡ n * d) (hK : K < n) where
  run_within : G < groups → G * b + K * d + d ≤ groups * b
  run_within hG = omega (arith, next_run G groups b hG, next_run K n d hK)

  run_owned : (k : ℕ) → G * b + K * d ≤ k → k < G * b + K * d + d → (k / b ≡ G) × (k % b / d ≡ K)
  run_owned k low high =
      let j = k - G * b in
      let i = j - K * d in
      let e : k ≡ G * b + j = omega arith in
      let f : j ≡ K * d + i = omega arith in
      let hj : j < b = omega (arith, next_run K n d hK) in
      let hi : i < d = omega arith in
      (ap (λ z. z / b) e ∙ div-mul-add G b j hj, ap (λ z. z / d) (ap (λ z. z % b) e ∙ mod-mul-add G b j hj) ∙ ap (λ z. z / d) f ∙ div-mul-add K d i hi)

-- a picture without sizes, whose samples tell their place
abbrev telling : (ℕ → ℕ → ℕ → ℕ) → Picture
telling f = record { planes = 0; width = λ _. 0; height = λ _. 0; depth = 0; sample = f }

module _ (t : Part) (w : LawfulLayout t.format.kind t.format.depth) where
  plane_inside : (p r : ℕ) → r < plane_height t p → p < t.format.kind.planes
  plane_inside p r h = grind (arith, nat_tests)

  pub part_covered : (p : ℕ) → Covered (plane_height t p) (group_height t.format.kind (layout_of t.format) p) (group_width (layout_of t.format) p)
  part_covered p h = let hp = plane_inside p 0 h in mul-pos (group_height_pos t w p hp) (group_width_pos t w p hp)

  part_within : (p r c : ℕ) → r < plane_height t p → c < plane_width t p
      → bit_of t p r c + t.format.depth ≤ 8 * (groups t * (layout_of t.format).octets)
  part_within p r c hr hc =
      let hp = plane_inside p r hr in
      let o = (layout_of t.format).octets in
      let fits = run_within (group_of t p r c) (position_in_group t p r c) (layout_of t.format).positions t.format.depth (o * 8) (groups t)
      w.bits (sample_of_place t w (telling (λ p r c. p)) p r c hp hc).0 (group_inside t w p r c hp hr hc) in
      omega (arith, fits, mul_assoc (groups t) o 8)

  part_owned : (p r c k : ℕ) → r < plane_height t p → c < plane_width t p → bit_of t p r c ≤ k → k < bit_of t p r c + t.format.depth
      → let b = (layout_of t.format).octets * 8 in
      let g = k / b in
      let i = k % b / t.format.depth in
      ((layout_of t.format).plane i ≡ p) × (place_row t g i ≡ r) × (place_column t g i ≡ c)
  part_owned p r c k hr hc low high =
      let hp = plane_inside p r hr in
      let b = (layout_of t.format).octets * 8 in
      let G = group_of t p r c in
      let K = position_in_group t p r c in
      let at = λ (f : ℕ → ℕ → ℕ → ℕ). sample_of_place t w (telling f) p r c hp hc in
      let is = run_owned G K (layout_of t.format).positions t.format.depth b (groups t) w.bits (at (λ p r c. p)).0 k low high in (
        ap (layout_of t.format).plane is.1 ∙ (at (λ p r c. p)).1,
        ap₂ (place_row t) is.0 is.1 ∙ (at (λ p r c. r)).1,
        ap₂ (place_column t) is.0 is.1 ∙ (at (λ p r c. c)).1,
      )

  -- a place's bits stand for the sample that its group has there
  part_sample : (m : List ℕ) → groups t * (layout_of t.format).octets ≤ length m → AllOctets m → (p r c : ℕ)
      → cond (ltb r (plane_height t p) && ltb c (plane_width t p)) (run_at m (bit_of t p r c) t.format.depth) 0 ≡ (packed_picture t m).sample p r c
  part_sample m long octets p r c =
      let some = ltb r (plane_height t p) && ltb c (plane_width t p) in
      let run = run_at m (bit_of t p r c) t.format.depth in
      let o = (layout_of t.format).octets in
      elim (cases_Bool some) [
        | inl f ↦
            let parts = and_parts (ltb r (plane_height t p)) (ltb c (plane_width t p)) f in
            let hr = ltb-true r (plane_height t p) parts.0 in
            let hc = ltb-true c (plane_width t p) parts.1 in
            let hp = plane_inside p r hr in
            let hk = (sample_of_place t w (telling (λ p r c. p)) p r c hp hc).0 in
            let room : group_of t p r c * o + o ≤ length m = omega (arith, next_run (group_of t p r c) (groups t) o (group_inside t w p r c hp hr hc)) in
            ap (λ x. cond some x 0) (group_sample m (group_of t p r c) o (position_in_group t p r c) (layout_of t.format).positions t.format.depth
            w.bits hk room octets)
        | inr f ↦ cond-false some run 0 f ∙ sym (cond-false some _ 0 f)
      ]

module _ (g : Grid) (t : Part) (e : Copies g t) where
  pub same_bit : (p r c : ℕ) → first_bit g p r c ≡ bit_of t p r c
  same_bit p r c = λ i.
      ((r / e.inner_heights p i) * e.across i + c / e.inner_widths p i) * (e.octets i * 8)
      + first_from 0 (e.positions i) (λ k. eqb (e.places.plane k i) p && eqb (e.places.row k i) (r % e.inner_heights p i)
      && eqb (e.places.column k i) (c % e.inner_widths p i)) * e.depth i

  pub same_picture : LawfulLayout t.format.kind t.format.depth → (m : List ℕ) → groups t * (layout_of t.format).octets ≤ length m
      → AllOctets m → grid_picture g m ≡ packed_picture t m
  same_picture w m long octets =
      (λ i. record {
        planes = e.planes i;
        width = λ p. e.widths p i;
        height = λ p. e.heights p i;
        depth = e.depth i;
        sample = λ p r c. cond (ltb r (e.heights p i) && ltb c (e.widths p i)) (run_at m (same_bit p r c i) (e.depth i)) 0;
      })
      ∙ ap (with_samples (packed_picture t m)) (fun_ext (λ p. fun_ext (λ r. fun_ext (λ c. part_sample t w m long octets p r c))))

  -- the place that a bit is for
  same_position : (k : ℕ) → k % (g.octets * 8) / g.depth ≡ k % ((layout_of t.format).octets * 8) / t.format.depth
  same_position k = λ i. k % (e.octets i * 8) / e.depth i

  same_plane : (k : ℕ) → bit_plane g k ≡ (layout_of t.format).plane (k % ((layout_of t.format).octets * 8) / t.format.depth)
  same_plane k = λ i. e.places.plane (same_position k i) i

  same_row : (k : ℕ) → let b = (layout_of t.format).octets * 8 in bit_row g k ≡ place_row t (k / b) (k % b / t.format.depth)
  same_row k = λ i. (k / (e.octets i * 8)) / e.across i * e.inner_heights (same_plane k i) i + e.places.row (same_position k i) i

  same_column : (k : ℕ) → let b = (layout_of t.format).octets * 8 in bit_column g k ≡ place_column t (k / b) (k % b / t.format.depth)
  same_column k = λ i. (k / (e.octets i * 8)) % e.across i * e.inner_widths (same_plane k i) i + e.places.column (same_position k i) i

  pub same_beside : (m : List ℕ) → grid_beside g m ≡ bit_beside t m
  same_beside m = λ i k.
      cond (not (ltb (same_row k i) (e.heights (same_plane k i) i) && ltb (same_column k i) (e.widths (same_plane k i) i))) (bit_at m k) 0

  module _ (w : LawfulLayout t.format.kind t.format.depth) where
    high : (p r : ℕ) → r < height_at g p → r < plane_height t p
    high p r = subst (λ x. r < x) (e.heights p)

    wide : (p c : ℕ) → c < width_at g p → c < plane_width t p
    wide p c = subst (λ x. c < x) (e.widths p)

    none : NoneBehind g
    none p h =
        let past : t.format.kind.planes ≤ p = subst (λ x. x ≤ p) e.planes h in
        let no : ltb p t.format.kind.planes ≡ false = le-ltb p t.format.kind.planes past in
        ap₂ (λ x y. x + y) (e.widths p ∙ cond-false (ltb p t.format.kind.planes) _ 0 no) (e.heights p ∙ cond-false (ltb p t.format.kind.planes) _ 0 no)

    within : Within g
    within p r c h =
        let fits : first_bit g p r c + g.depth ≤ 8 * (groups t * (layout_of t.format).octets)
        = subst (λ x. x ≤ 8 * (groups t * (layout_of t.format).octets)) (sym (ap₂ (λ x y. x + y) (same_bit p r c) e.depth))
        (part_within t w p r c (high p r h.0) (wide p c h.1)) in
        subst (λ x. first_bit g p r c + g.depth ≤ 8 * x) (sym e.size) fits

    owned : Owned g
    owned x k h =
        let p = x.0 in
        let r = x.1 in
        let c = x.2 in
        let low = subst (λ y. y ≤ k) (same_bit p r c) h.2 in
        let up = subst (λ y. k < y) (ap₂ (λ x y. x + y) (same_bit p r c) e.depth) h.3 in
        let is = part_owned t w p r c k (high p r h.0) (wide p c h.1) low up in
        and_from _ _
        (and_from _ _ (eq-eqb (bit_plane g k) p (same_plane k ∙ is.0)) (eq-eqb (bit_row g k) r (same_row k ∙ is.1)))
        (eq-eqb (bit_column g k) c (same_column k ∙ is.2))

    pub copies_sound : (room : ℕ) → groups t * (layout_of t.format).octets ≤ room → Sound g room
    copies_sound room long = record {
      none = none;
      within = within;
      owned = owned;
      long = subst (λ x. x ≤ room) (sym e.size) long;
    }

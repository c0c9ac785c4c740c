-- Where a place lies: its group, and its position there.
use Rattle.std.proofs.Common.{◌≡◌, ℕ, zero, suc, ◌+◌, ◌*◌, ◌/◌, ◌%◌, ◌<◌, ◌≤◌, true, ◌&&◌, eqb, ltb, List, sym, ap, ◌∙◌, subst, inl, inr, not-suc-le-zero, mul_assoc, lt_of_mul-lt-mul_right, div-add-mod', zero-mul, arith}
use lib.Arith.{digits_lt}
use Rattle.std.proofs.lemmas.Bool.{cond-true, lt-ltb, eqb-true, and_parts, ltb-true, cases_lt}
use Rattle.std.proofs.lemmas.Nat.{div_below, div-mul-add, mod-mul-add, mod_below}
use Rattle.theory.specs.Octets.{ceil_div}
use Rattle.theory.specs.Layouts.{Layout, LawfulLayout, group_height, group_width}
use Rattle.theory.specs.Formats.{Part, layout_of, row_groups, rows, unit_rows, groups, plane_width, plane_height}
use Rattle.theory.specs.Pictures.{Picture, LawfulPicture, inside, fits_part}
use Rattle.theory.specs.Groups.{value_at, sample_at, group_octets, group_of, position_in_group}
use Rattle.theory.specs.Taking.{reads, octets_of}
use Rattle.theory.proofs.Searches.{below_ceil, le_ceil, all_below_at}
use Rattle.theory.proofs.Positions.{position_named}
use Rattle.theory.proofs.Values.{value_of_group}

pos_left : (a b : ℕ) → 0 < a * b → 0 < a
pos_left zero b h = rw (sym (zero-mul b)) h
pos_left (suc a) b h = omega arith

-- a divisor's quotient is not 0
quotient_pos : (n s : ℕ) → 0 < n → n % s ≡ 0 → 0 < n / s
quotient_pos n s h e = pos_left (n / s) s (omega (arith, div-add-mod' n s))

-- of `size` places, taken `step` by `step`: the cell of n places that holds place c
in_cell : (c step n size : ℕ) → 0 < step → 0 < n → n % step ≡ 0 → c < ceil_div size step → c / (n / step) < ceil_div size n
in_cell c step n size p h e i =
    let W : ℕ = n / step in
    let R : ℕ = ceil_div size n in
    let a : c * step < size = below_ceil c size step p i in
    let b : size ≤ R * n = le_ceil size n h in
    let d : W * step ≡ n = omega (arith, div-add-mod' n step) in
    let m : R * W * step ≡ R * n = mul_assoc R W step ∙ ap (λ x. R * x) d in
    div_below c W R (quotient_pos n step h e) (lt_of_mul-lt-mul_right step (omega arith))

same_place : (F : ℕ → ℕ → ℕ → ℕ) (gh gw : ℕ → ℕ) (pk p a b rk ck a' b' r' c' r c : ℕ)
    → pk ≡ p → a ≡ a' → b ≡ b' → rk ≡ r' → ck ≡ c' → a' * gh p + r' ≡ r → b' * gw p + c' ≡ c
    → F pk (a * gh pk + rk) (b * gw pk + ck) ≡ F p r c
same_place F gh gw pk p a b rk ck a' b' r' c' r c e₁ e₂ e₃ e₄ e₅ e₆ e₇ = cc

-- rows and columns of plane p inside a group of the part
abbrev height_in : Part → ℕ → ℕ
height_in t p = group_height t.format.kind (layout_of t.format) p

abbrev width_in : Part → ℕ → ℕ
width_in t p = group_width (layout_of t.format) p

module _ (t : Part) (w : LawfulLayout t.format.kind t.format.depth) where
  pub group_height_pos : (p : ℕ) → p < t.format.kind.planes → 0 < height_in t p
  group_height_pos p h = quotient_pos t.format.kind.rows ((layout_of t.format).row_step p) w.rows_range.0 (w.row_steps p h).1

  pub group_width_pos : (p : ℕ) → p < t.format.kind.planes → 0 < width_in t p
  group_width_pos p h =
      quotient_pos (layout_of t.format).columns ((layout_of t.format).column_step p) w.columns_range.0 (w.column_steps p h).1

  -- the group's column in the unit row, and its unit row
  pub in_row : (p c : ℕ) → p < t.format.kind.planes → c < plane_width t p → c / width_in t p < row_groups t.format
  in_row p c h i =
      let s : ℕ = (layout_of t.format).column_step p in
      in_cell c s (layout_of t.format).columns t.format.width (w.column_steps p h).0 w.columns_range.0 (w.column_steps p h).1
      (subst (λ x. c < x) (cond-true (ltb p t.format.kind.planes) (ceil_div t.format.width s) 0 (lt-ltb p t.format.kind.planes h)) i)

  pub in_part : (p r : ℕ) → p < t.format.kind.planes → r < plane_height t p → r / height_in t p < unit_rows t
  in_part p r h i =
      let s : ℕ = (layout_of t.format).row_step p in
      in_cell r s t.format.kind.rows (rows t) (w.row_steps p h).0 w.rows_range.0 (w.row_steps p h).1
      (subst (λ x. r < x) (cond-true (ltb p t.format.kind.planes) (ceil_div (rows t) s) 0 (lt-ltb p t.format.kind.planes h)) i)

  -- the group of a place of a plane is a group of the part
  pub group_inside : (p r c : ℕ) → p < t.format.kind.planes → r < plane_height t p → c < plane_width t p → group_of t p r c < groups t
  group_inside p r c h i j = digits_lt (in_part p r h i) (in_row p c h j)

  -- the position of a place, and the sample there
  pub sample_of_place : (v : Picture) (p r c : ℕ) → p < t.format.kind.planes → c < plane_width t p
      → (position_in_group t p r c < (layout_of t.format).positions)
      × (sample_at t v (group_of t p r c) (position_in_group t p r c) ≡ v.sample p r c)
  sample_of_place v p r c h i =
      let l : Layout = layout_of t.format in
      let H : ℕ = height_in t p in
      let W : ℕ = width_in t p in
      let R : ℕ = row_groups t.format in
      let H-pos : 0 < H = group_height_pos p h in
      let W-pos : 0 < W = group_width_pos p h in
      let k : ℕ = position_in_group t p r c in
      let at = position_named t.format.kind t.format.depth l w p (r % H) (c % W) h (mod_below r H H-pos) (mod_below c W W-pos) in
      let g : ℕ = group_of t p r c in
      let col : c / W < R = in_row p c h i in
      let d₁ : g / R ≡ r / H = div-mul-add (r / H) R (c / W) col in
      let d₂ : g % R ≡ c / W = mod-mul-add (r / H) R (c / W) col in
      let f₁ : (r / H) * H + r % H ≡ r = div-add-mod' r H in
      let f₂ : (c / W) * W + c % W ≡ c = div-add-mod' c W in (
        at.0,
        same_place v.sample (height_in t) (width_in t) (l.plane k) p (g / R) (g % R) (l.row k) (l.column k)
            (r / H) (c / W) (r % H) (c % W) r c at.1 d₁ d₂ at.2 at.3 f₁ f₂,
      )

-- a picture that fits the part has its depth, and the number and the sizes of its planes
module _ (v : Picture) (t : Part) (fit : fits_part v t ≡ true) where
  pub depth_of_fit : v.depth ≡ t.format.depth
  depth_of_fit = eqb-true _ _ (and_parts _ _ fit).1

  pub planes_of_fit : v.planes ≡ t.format.kind.planes
  planes_of_fit = eqb-true _ _ (and_parts _ _ (and_parts _ _ fit).0).0

  sizes_of_fit : (p : ℕ) → p < 3 → (eqb (v.width p) (plane_width t p) && eqb (v.height p) (plane_height t p)) ≡ true
  sizes_of_fit =
      all_below_at (λ p. eqb (v.width p) (plane_width t p) && eqb (v.height p) (plane_height t p)) 3
      (and_parts _ _ (and_parts _ _ fit).0).1

  pub width_of_fit : (p : ℕ) → p < 3 → v.width p ≡ plane_width t p
  width_of_fit p l = eqb-true _ _ (and_parts _ _ (sizes_of_fit p l)).0

  pub height_of_fit : (p : ℕ) → p < 3 → v.height p ≡ plane_height t p
  height_of_fit p l = eqb-true _ _ (and_parts _ _ (sizes_of_fit p l)).1

module _ (t : Part) (w : LawfulLayout t.format.kind t.format.depth) (v : Picture) (lv : LawfulPicture v)
    (fit : fits_part v t ≡ true) (p r c : ℕ) (i : inside v p r c ≡ true) where
  -- a place inside lies in a plane of the part
  pub place_inside : (p < t.format.kind.planes) × (r < plane_height t p) × (c < plane_width t p)
  place_inside = elim (cases_lt p t.format.kind.planes) [
    | inl h ↦
        let three : p < 3 = omega (arith, w.planes_range.1) in
        (h, subst (λ x. r < x) (height_of_fit v t fit p three) in_height, subst (λ x. c < x) (width_of_fit v t fit p three) in_width)
    | inr h ↦ absurd (not-suc-le-zero (subst (λ x. c < x) (lv.no_width p (subst (λ x. x ≤ p) (sym (planes_of_fit v t fit)) h)) in_width))
  ]
    where
      in_height : r < v.height p
      in_height = ltb-true r (v.height p) (and_parts (ltb r (v.height p)) (ltb c (v.width p)) i).0

      in_width : c < v.width p
      in_width = ltb-true c (v.width p) (and_parts (ltb r (v.height p)) (ltb c (v.width p)) i).1

  -- what a packet reads as there, where its octets of the place's group are the picture's
  pub reads_back : (q : List ℕ) → octets_of t q (group_of t p r c) ≡ group_octets t v (group_of t p r c) → reads t q p r c ≡ v.sample p r c
  reads_back q same =
      let s = sample_of_place t w v p r c place_inside.0 place_inside.2 in
      ap (λ os. value_at (layout_of t.format) t.format.depth os (position_in_group t p r c)) same
      ∙ value_of_group t v (group_of t p r c) (position_in_group t p r c) w lv (depth_of_fit v t fit) s.0
      ∙ s.1

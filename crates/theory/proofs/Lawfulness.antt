-- A kind is lawful where one computed test passes, over the depths up to 16; the standard kinds are.
use Rattle.std.proofs.Common.{◌≡◌, ℕ, zero, suc, ◌*◌, ◌%◌, ◌<◌, ◌≤◌, Bool, true, false, cond, not, ◌&&◌, ◌||◌, eqb, ltb, leb, List, [], ◌∷◌, get_or, refl, ⊎_elim, arith, lit<}
use Rattle.std.proofs.lemmas.List.{get_or_past}
use Rattle.std.proofs.lemmas.Bool.{cond-false, le-ltb, leb-true, eqb-true, and_parts, or_cases, cases_lt}
use Rattle.std.proofs.lemmas.Bool.Decides.{nat_tests}
use Rattle.theory.specs.Octets.{all_below, any_below}
use Rattle.theory.specs.Layouts.{Layout, no_layout, Kind, LawfulLayout, ZeroElsewhere, LawfulKind, group_height, group_width}
use Rattle.theory.specs.Kinds.{by_depth, below, key_layout, full_layout, full, half_layout, quarter_layout}
use Rattle.theory.specs.Claims.{StandardKinds}
use Rattle.theory.proofs.Searches.{all_below_at, any_below_some}

abbrev every : List Bool → Bool
every [] = true
every (b ∷ bs) = b && every bs

passed : (bs : List Bool) → every bs ≡ true → (i : ℕ) → get_or bs i true ≡ true
passed [] t i = refl
passed (b ∷ bs) t zero = (and_parts b (every bs) t).0
passed (b ∷ bs) t (suc i) = passed bs (and_parts b (every bs) t).1 i

-- position i holds row d and column e of plane p
abbrev at_place : Layout → ℕ → ℕ → ℕ → ℕ → Bool
at_place l p d e i = eqb (l.plane i) p && (eqb (l.row i) d && eqb (l.column i) e)

abbrev holds : Layout → ℕ → ℕ → ℕ → Bool
holds l p d e = any_below l.positions (at_place l p d e)

-- positions i and j differ, or hold two places
abbrev apart : Layout → ℕ → ℕ → Bool
apart l i j = not (at_place l (l.plane j) (l.row j) (l.column j) i) || eqb i j

abbrev divides : ℕ → ℕ → Bool
divides n s = ltb 0 s && eqb (n % s) 0

abbrev place_inside : Kind → Layout → ℕ → Bool
place_inside k l i =
    ltb (l.plane i) k.planes && (ltb (l.row i) (group_height k l (l.plane i)) && ltb (l.column i) (group_width l (l.plane i)))

-- each law of a layout, as a test
abbrev tests : Kind → Layout → ℕ → List Bool
tests k l depth =
    leb 8 depth ∷ leb depth 16 ∷ leb 1 k.planes ∷ leb k.planes 3 ∷ leb 1 k.rows ∷ leb k.rows 2
    ∷ leb 1 l.columns ∷ leb l.columns 8 ∷ leb 1 l.positions ∷ leb l.positions 24
    ∷ eqb (l.octets * 8) (l.positions * depth)
    ∷ all_below k.planes (λ p. divides l.columns (l.column_step p))
    ∷ all_below k.planes (λ p. divides k.rows (l.row_step p))
    ∷ all_below l.positions (place_inside k l)
    ∷ all_below k.planes (λ p. all_below (group_height k l p) (λ d. all_below (group_width l p) (holds l p d)))
    ∷ all_below l.positions (λ i. all_below l.positions (apart l i))
    ∷ []

lawful_layout : (k : Kind) (depth : ℕ) → every (tests k (k.layout depth) depth) ≡ true → LawfulLayout k depth
lawful_layout k depth t =
    let l = k.layout depth in
    let pass : (i : ℕ) → get_or (tests k l depth) i true ≡ true = passed (tests k l depth) t in
    record {
      depth_range = (leb-true 8 depth (pass 0), leb-true depth 16 (pass 1));
      planes_range = (leb-true 1 k.planes (pass 2), leb-true k.planes 3 (pass 3));
      rows_range = (leb-true 1 k.rows (pass 4), leb-true k.rows 2 (pass 5));
      columns_range = (leb-true 1 l.columns (pass 6), leb-true l.columns 8 (pass 7));
      positions_range = (leb-true 1 l.positions (pass 8), leb-true l.positions 24 (pass 9));
      bits = eqb-true (l.octets * 8) (l.positions * depth) (pass 10);
      column_steps = λ p h. let e = all_below_at (λ p. divides l.columns (l.column_step p)) k.planes (pass 11) p h in grind (arith, nat_tests);
      row_steps = λ p h. let e = all_below_at (λ p. divides k.rows (l.row_step p)) k.planes (pass 12) p h in grind (arith, nat_tests);
      inside = λ i h. let e = all_below_at (place_inside k l) l.positions (pass 13) i h in grind (arith, nat_tests);
      named = λ p d e hp hd he.
          let a = all_below_at (λ p. all_below (group_height k l p) (λ d. all_below (group_width l p) (holds l p d))) k.planes (pass 14) p hp in
          let b = all_below_at (λ d. all_below (group_width l p) (holds l p d)) (group_height k l p) a d hd in
          let i = any_below_some (at_place l p d e) l.positions (all_below_at (holds l p d) (group_width l p) b e he) in
          let q = i.2 in
          (i.0, i.1, grind (arith, nat_tests), grind (arith, nat_tests), grind (arith, nat_tests));
      once = λ i j hi hj p d e.
          let a = all_below_at (λ i. all_below l.positions (apart l i)) l.positions (pass 15) i hi in
          let b = all_below_at (apart l i) l.positions a j hj in
          grind (arith, nat_tests);
    }

-- the whole test
abbrev pub lawful_test : Kind → Bool
lawful_test k = all_below 17 (λ d. eqb (k.layout d).octets 0 || every (tests k (k.layout d) d))

-- at any depth: 0 elsewhere, and no layout without octets
abbrev pub Told : ℕ → Layout → Type 0
Told planes l = ZeroElsewhere planes l × (l.octets ≡ 0 → l ≡ no_layout)

-- a kind is lawful where the test passes, and what it tells by depth is told so
pub lawful : (k : Kind) → lawful_test k ≡ true → ((d : ℕ) → 17 ≤ d → (k.layout d).octets ≡ 0) → ((d : ℕ) → Told k.planes (k.layout d))
    → LawfulKind k
lawful k t none told = record {
  at_depth = λ d some. ⊎_elim
      (λ h. ⊎_elim (λ e. absurd (omega (arith, eqb-true (k.layout d).octets 0 e))) (lawful_layout k d)
      (or_cases (eqb (k.layout d).octets 0) (every (tests k (k.layout d) d))
      (all_below_at (λ d. eqb (k.layout d).octets 0 || every (tests k (k.layout d) d)) 17 t d h)))
      (λ h. absurd (omega (arith, none d h)))
      (cases_lt d 17);
  no_depth = λ d. (told d).1;
  elsewhere = λ d. (told d).0;
}

-- what holds of each layout by depth
pub each_depth : (P : Layout → Type 0) (a b c e : Layout) → P a → P b → P c → P e → P no_layout → (d : ℕ) → P (by_depth a b c e d)
each_depth P a b c e pa pb pc pe pn d = go (eqb d 8) (eqb d 10) (eqb d 12) (eqb d 16)
  where
    go : (x y z w : Bool) → P (cond x a (cond y b (cond z c (cond w e no_layout))))
    go true y z w = pa
    go false true z w = pb
    go false false true w = pc
    go false false false true = pe
    go false false false false = pn

-- a layout by depth has nothing above 16
pub none_above : (a b c e : Layout) (d : ℕ) → 17 ≤ d → (by_depth a b c e d).octets ≡ 0
none_above a b c e d h = grind (arith, nat_tests)

pub told_none : (planes : ℕ) → Told planes no_layout
told_none planes = (record { no_plane = λ p h. (refl, refl); no_position = λ i h. (refl, refl, refl) }, λ e. refl)

-- a kind by depth is lawful where the test passes, and each of its layouts is told so
pub lawful_by_depth : (planes rows : ℕ) (a b c e : Layout) → lawful_test (record { planes = planes; rows = rows; layout = by_depth a b c e }) ≡ true
    → Told planes a → Told planes b → Told planes c → Told planes e → LawfulKind (record { planes = planes; rows = rows; layout = by_depth a b c e })
lawful_by_depth planes rows a b c e t ta tb tc te =
    lawful (record { planes = planes; rows = rows; layout = by_depth a b c e }) t (none_above a b c e)
    (each_depth (Told planes) a b c e ta tb tc te (told_none planes))

-- the layouts of the standard kinds
past : (n i x : ℕ) → n ≤ i → below n i x ≡ 0
past n i x h = cond-false (ltb i n) x 0 (le-ltb i n h)

some : (l : Layout) → 0 < l.octets → l.octets ≡ 0 → l ≡ no_layout
some l h e = absurd (omega arith)

told_key : (o c : ℕ) → 0 < o → Told 1 (key_layout o c)
told_key o c h = (record { no_plane = λ p l. (past 1 p 1 l, past 1 p 1 l); no_position = λ i l. (refl, refl, past c i i l) }, some (key_layout o c) h)

told_full : (order : List ℕ) (o c : ℕ) → 0 < o → Told 3 (full_layout order o c)
told_full order o c h = (
  record { no_plane = λ p l. (past 3 p 1 l, past 3 p 1 l); no_position = λ i l. (past (3 * c) i _ l, refl, past (3 * c) i _ l) },
  some (full_layout order o c) h,
)

lawful_full : (order : List ℕ) → lawful_test (record { planes = 3; rows = 1; layout = full order }) ≡ true
    → LawfulKind (record { planes = 3; rows = 1; layout = full order })
lawful_full order t =
    lawful_by_depth 3 1 _ _ _ _ t (told_full order 3 1 (lit< tt)) (told_full order 15 4 (lit< tt)) (told_full order 9 2 (lit< tt))
    (told_full order 6 1 (lit< tt))

told_half : (o : ℕ) → 0 < o → Told 3 (half_layout o)
told_half o h = (
  record {
    no_plane = λ p l. (get_or_past (1 ∷ 2 ∷ 2 ∷ []) p 0 l, past 3 p 1 l);
    no_position = λ i l. (get_or_past (1 ∷ 0 ∷ 2 ∷ 0 ∷ []) i 0 l, refl, get_or_past (0 ∷ 0 ∷ 0 ∷ 1 ∷ []) i 0 l);
  },
  some (half_layout o) h,
)

told_quarter : (o c : ℕ) → 0 < o → Told 3 (quarter_layout o c)
told_quarter o c h = (
  record {
    no_plane = λ p l. (get_or_past (1 ∷ 2 ∷ 2 ∷ []) p 0 l, get_or_past (1 ∷ 2 ∷ 2 ∷ []) p 0 l);
    no_position = λ i l. (past (3 * c) i _ l, past (3 * c) i _ l, past (3 * c) i _ l);
  },
  some (quarter_layout o c) h,
)

pub standard_kinds : StandardKinds
standard_kinds = record {
  key_lawful = lawful_by_depth 1 1 _ _ _ _ refl (told_key 1 1 (lit< tt)) (told_key 5 4 (lit< tt)) (told_key 3 2 (lit< tt)) (told_key 2 1 (lit< tt));
  ycc444_lawful = lawful_full (1 ∷ 0 ∷ 2 ∷ []) refl;
  rgb_lawful = lawful_full (0 ∷ 1 ∷ 2 ∷ []) refl;
  xyz_lawful = lawful_by_depth 3 1 _ _ _ _ refl (told_none 3) (told_none 3) (told_full (0 ∷ 1 ∷ 2 ∷ []) 9 2 (lit< tt))
      (told_full (0 ∷ 1 ∷ 2 ∷ []) 6 1 (lit< tt));
  ycc422_lawful = lawful_by_depth 3 1 _ _ _ _ refl (told_half 4 (lit< tt)) (told_half 5 (lit< tt)) (told_half 6 (lit< tt)) (told_half 8 (lit< tt));
  ycc420_lawful = lawful_by_depth 3 2 _ _ _ _ refl (told_quarter 6 2 (lit< tt)) (told_quarter 15 4 (lit< tt)) (told_quarter 9 2 (lit< tt))
      (told_none 3);
}

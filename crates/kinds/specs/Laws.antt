-- The standard kinds are lawful, and follow from what their families say. A kind of three planes that have every column each is lawful where
-- the computed test passes, whatever its rows and its order of planes.
use Rattle.std.specs.Prelude.{◌≡◌, ℕ, zero, suc, ◌*◌, ◌<◌, ◌≤◌, Bool, true, false, cond, List, [], ◌∷◌, nat_lt, slice_index, refl}
use Rattle.std.proofs.Common.{sym, ap, subst, ◌∙◌, mul-zero, arith, lit<, lit≤}
use Rattle.std.proofs.lemmas.Bool.{cond-true, cond-false, lt-ltb, le-ltb}
use Rattle.theory.specs.Layouts.{Layout, Kind, no_layout, LawfulKind}
use Rattle.theory.specs.Kinds.{by_depth, below, key, key_layout, full_layout, full, xyz, ycc420, ycc422, half_layout, quarter_layout}
use Rattle.theory.proofs.Lawfulness.{lawful_test, Told, told_none, each_depth, lawful_by_depth}
use Rattle.kinds.specs.Families.{Follows}

-- theory has its own lemmas on these layouts, which are private there
past : (n i x : ℕ) → n ≤ i → below n i x ≡ 0
past n i x h = cond-false (nat_lt i n) x 0 (le-ltb i n h)

within : (n i x : ℕ) → i < n → below n i x ≡ x
within n i x h = cond-true (nat_lt i n) x 0 (lt-ltb i n h)

told : (order : List ℕ) (octets columns : ℕ) → 0 < octets → Told 3 (full_layout order octets columns)
told order octets columns h = (
  record { no_plane = λ p l. (past 3 p 1 l, past 3 p 1 l); no_position = λ i l. (past (3 * columns) i _ l, refl, past (3 * columns) i _ l) },
  λ e. absurd (omega arith),
)

-- the planes of the first three positions, which are the order of all
abbrev order_of : Kind → List ℕ
order_of k = let l = k.layout 12 in l.plane 0 ∷ l.plane 1 ∷ l.plane 2 ∷ []

-- at all depths, or at 12 and 16 only
abbrev full_kind : ℕ → List ℕ → Bool → Kind
full_kind rows order all = record {
  planes = 3;
  rows = rows;
  layout = by_depth (cond all (full_layout order 3 1) no_layout) (cond all (full_layout order 15 4) no_layout) (full_layout order 9 2) (full_layout order 6 1);
}

told_if : (all : Bool) (l : Layout) → Told 3 l → Told 3 (cond all l no_layout)
told_if true l t = t
told_if false l t = told_none 3

full_laws : (rows : ℕ) (order : List ℕ) (all : Bool) → lawful_test (full_kind rows order all) ≡ true → LawfulKind (full_kind rows order all)
full_laws rows order all t =
    lawful_by_depth 3 rows _ _ _ _ t (told_if all _ (told order 3 1 (lit< tt))) (told_if all _ (told order 15 4 (lit< tt)))
    (told order 9 2 (lit< tt)) (told order 6 1 (lit< tt))

pub lawful_full : (k : Kind) (all : Bool) → k ≡ full_kind k.rows (order_of k) all → lawful_test k ≡ true → LawfulKind k
lawful_full k all e t = subst LawfulKind (sym e) (full_laws k.rows (order_of k) all (ap lawful_test (sym e) ∙ t))

-- what a depth that the kind does not have adds
none : {planes samples column_step row_step : ℕ} {widest : Layout} → Follows planes samples column_step row_step widest no_layout
none = record {
  positions = sym (mul-zero _);
  first = λ h. absurd (omega arith);
  others = λ h. absurd (omega arith);
  places = λ k h. absurd (omega arith);
}

-- below n and below m agree in both
both : (n m k x : ℕ) → n ≤ m → k < n → below n k x ≡ below m k x
both n m k x h l = within n k x l ∙ sym (within m k x (omega arith))

full_at : (order : List ℕ) (o w octets columns : ℕ) → columns ≤ w → Follows 3 3 1 1 (full_layout order o w) (full_layout order octets columns)
full_at order o w octets columns h = record {
  positions = refl;
  first = λ l. (refl, refl);
  others = λ l p some p3. (within 3 p 1 p3, within 3 p 1 p3);
  places = λ k l. (omega arith, both (3 * columns) (3 * w) k _ (omega arith) l, refl, both (3 * columns) (3 * w) k _ (omega arith) l);
}

pub follows_full : (order : List ℕ) (depth : ℕ) → Follows 3 3 1 1 (full_layout order 15 4) (full order depth)
follows_full order =
    each_depth (Follows 3 3 1 1 (full_layout order 15 4)) _ _ _ _ (full_at order 15 4 3 1 (lit≤ tt)) (full_at order 15 4 15 4 (lit≤ tt))
    (full_at order 15 4 9 2 (lit≤ tt)) (full_at order 15 4 6 1 (lit≤ tt)) none

pub follows_deep : (depth : ℕ) → Follows 3 3 1 1 (full_layout (0 ∷ 1 ∷ 2 ∷ []) 9 2) (xyz.layout depth)
follows_deep =
    let order = 0 ∷ 1 ∷ 2 ∷ [] in
    each_depth (Follows 3 3 1 1 (full_layout order 9 2)) _ _ _ _ none none (full_at order 9 2 9 2 (lit≤ tt)) (full_at order 9 2 6 1 (lit≤ tt)) none

key_at : (octets columns : ℕ) → columns ≤ 4 → columns ≡ 1 * columns → Follows 1 1 1 1 (key_layout 5 4) (key_layout octets columns)
key_at octets columns h e = record {
  positions = e;
  first = λ l. (refl, refl);
  others = λ l p some one. absurd (omega arith);
  places = λ k l. (omega arith, refl, refl, both columns 4 k k h l);
}

pub follows_key : (depth : ℕ) → Follows 1 1 1 1 (key_layout 5 4) (key.layout depth)
follows_key =
    each_depth (Follows 1 1 1 1 (key_layout 5 4)) _ _ _ _ (key_at 1 1 (lit≤ tt) refl) (key_at 5 4 (lit≤ tt) refl) (key_at 3 2 (lit≤ tt) refl)
    (key_at 2 1 (lit≤ tt) refl) none

-- planes 1 and 2 have every second column, or row
halved : (p : ℕ) → 0 < p → p < 3 → slice_index (1 ∷ 2 ∷ 2 ∷ []) p ≡ 2
halved zero some h = absurd (omega arith)
halved (suc zero) some h = refl
halved (suc (suc zero)) some h = refl
halved (suc (suc (suc p))) some h = absurd (omega arith)

half_at : (octets : ℕ) → Follows 3 2 2 1 (half_layout 4) (half_layout octets)
half_at octets = record {
  positions = refl;
  first = λ l. (refl, refl);
  others = λ l p some p3. (halved p some p3, within 3 p 1 p3);
  places = λ k l. (l, refl, refl, refl);
}

pub follows_half : (depth : ℕ) → Follows 3 2 2 1 (half_layout 4) (ycc422.layout depth)
follows_half = each_depth (Follows 3 2 2 1 (half_layout 4)) _ _ _ _ (half_at 4) (half_at 5) (half_at 6) (half_at 8) none

quarter_at : (octets columns : ℕ) → columns ≤ 4 → Follows 3 3 2 2 (quarter_layout 15 4) (quarter_layout octets columns)
quarter_at octets columns h = record {
  positions = refl;
  first = λ l. (refl, refl);
  others = λ l p some p3. (halved p some p3, halved p some p3);
  places = λ k l.
      let same : (x : ℕ) → below (3 * columns) k x ≡ below 12 k x = λ x. both (3 * columns) 12 k x (omega arith) l in
      (omega arith, same _, same _, same _);
}

pub follows_quarter : (depth : ℕ) → Follows 3 3 2 2 (quarter_layout 15 4) (ycc420.layout depth)
follows_quarter =
    each_depth (Follows 3 3 2 2 (quarter_layout 15 4)) _ _ _ _ (quarter_at 6 2 (lit≤ tt)) (quarter_at 15 4 (lit≤ tt)) (quarter_at 9 2 (lit≤ tt))
    none none

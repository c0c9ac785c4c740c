-- The samples of one group, one after another: what a turn of the loop leaves.
use Rattle.std.proofs.Common.{◌≡◌, ℕ, ◌+◌, ◌^◌, ◌<◌, ◌≤◌, Bool, true, ◌&&◌, eqb, ltb, List, length, sym, refl, ap, ◌∙◌, subst, arith}
use Rattle.std.proofs.lemmas.Bool.{and_right, and_from, le-ltb, lt-ltb, eq-eqb, cond-true}
use Rattle.std.proofs.lemmas.Nat.{pow_pos, mod_below}
use Rattle.std.proofs.lemmas.Bool.Decides.{nat_tests}
use Rattle.kinds.specs.Packing.{is_group, unpacked}
use Rattle.theory.specs.Layouts.{Layout, LawfulLayout}
use Rattle.theory.specs.Formats.{Part, layout_of}
use Rattle.theory.specs.Groups.{filled, group_of, position_in_group, place_row, place_column, value_at}
use Rattle.theory.specs.Pictures.{Picture, LawfulPicture, fits_part, put_after}
use Rattle.theory.proofs.Filling.{filled_none, filled_same, put_next}
use Rattle.theory.proofs.Places.{place_inside, depth_of_fit}
use Rattle.receiver.specs.Filling.{group_value}
use Rattle.receiver.proofs.Spots.{place_is, place_only, position_small}

-- the first k positions of group n
abbrev pub first_positions : ℕ → ℕ → ℕ → ℕ → Bool
first_positions n k h i = eqb h n && ltb i k

-- one position more, and all
grown : (h i n k : ℕ) → (h ≡ n → i ≡ k → ⊥) → first_positions n k h i ≡ first_positions n (k + 1) h i
grown h i n k ne = grind (arith, nat_tests)

now_chosen : (h i n k : ℕ) → h ≡ n → i ≡ k → first_positions n (k + 1) h i ≡ true
now_chosen h i n k a b = grind (arith, nat_tests)

all_chosen : (h i n k m : ℕ) → i < m → m ≤ k → first_positions n k h i ≡ eqb h n
all_chosen h i n k m a b = grind (arith, nat_tests)

-- the picture with the first k samples of group n
abbrev pub GroupSoFar : Part → Picture → List ℕ → ℕ → ℕ → Picture → Type 0
GroupSoFar t v os n k now = now ≡ filled t v (first_positions n k) (group_value t os)

pub group_begins : (t : Part) (v : Picture) (os : List ℕ) (n : ℕ) → GroupSoFar t v os n 0 v
group_begins t v os n =
    filled_none t v (first_positions n 0) (group_value t os) (λ h i. and_right (eqb h n) (ltb i 0) (le-ltb i 0 (omega arith)))

same_put : (u v : Picture) (p q r s c d x y : ℕ) → u ≡ v → p ≡ q → r ≡ s → c ≡ d → x ≡ y → put_after u p r c x ≡ put_after v q s d y
same_put u v p q r s c d x y e₁ e₂ e₃ e₄ e₅ =
    ap (λ z. put_after z p r c x) e₁ ∙ ap (λ z. put_after v z r c x) e₂ ∙ ap (λ z. put_after v q z c x) e₃
    ∙ ap (λ z. put_after v q s z x) e₄ ∙ ap (λ z. put_after v q s d z) e₅

module _ (t : Part) (w : LawfulLayout t.format.kind t.format.depth) (v : Picture) (lv : LawfulPicture v) (fit : fits_part v t ≡ true)
    (os : List ℕ) (n : ℕ) where
  pub group_puts : 0 < (layout_of t.format).octets → length os ≡ (layout_of t.format).octets
      → (k : ℕ) → k < (layout_of t.format).positions → (now now' : Picture) (p r c x : ℕ)
      → p ≡ (layout_of t.format).plane k → r ≡ place_row t n k → c ≡ place_column t n k
      → x ≡ unpacked (layout_of t.format) t.format.depth os k → now' ≡ put_after now p r c x
      → GroupSoFar t v os n k now → GroupSoFar t v os n (k + 1) now'
  group_puts some whole k within now now' p r c x ep er ec ex put so_far =
      let l : Layout = layout_of t.format in
      let depth : ℕ = t.format.depth in
      let y : ℕ = value_at l depth os k in
      let group : (is_group l os && ltb k l.positions) ≡ true =
      and_from (is_group l os) (ltb k l.positions)
      (and_from (ltb 0 l.octets) (eqb (length os) l.octets) (lt-ltb 0 l.octets some) (eq-eqb (length os) l.octets whole))
      (lt-ltb k l.positions within) in
      let is = place_is t w n k within in
      let small : y < 2 ^ v.depth = subst (λ d. y < 2 ^ d) (sym (depth_of_fit v t fit)) (mod_below _ (2 ^ depth) (pow_pos depth)) in
      put
      ∙ same_put now (filled t v (first_positions n k) (group_value t os)) p (l.plane k) r (place_row t n k) c (place_column t n k) x y
      so_far ep er ec (ex ∙ cond-true (is_group l os && ltb k l.positions) y 0 group)
      ∙ put_next t v (first_positions n k) (first_positions n (k + 1)) (group_value t os) (l.plane k) (place_row t n k) (place_column t n k) y small
      (now_chosen _ _ n k is.0 is.1)
      (ap (value_at l depth os) (sym is.1))
      (λ q s d i other.
      let at = place_inside t w v lv fit q s d i in
      grown (group_of t q s d) (position_in_group t q s d) n k (λ eg ek. other (place_only t w n k q s d at.0 at.2 eg ek)))

  pub group_ends : (k : ℕ) → (layout_of t.format).positions ≤ k → (now : Picture) → GroupSoFar t v os n k now
      → now ≡ filled t v (λ h _. eqb h n) (group_value t os)
  group_ends k all now so_far =
      so_far
      ∙ filled_same t v (first_positions n k) (λ h _. eqb h n) (group_value t os) (group_value t os)
      (λ q s d i.
      let at = place_inside t w v lv fit q s d i in
      all_chosen (group_of t q s d) (position_in_group t q s d) n k (layout_of t.format).positions (position_small t w q s d at.0) all)
      (λ _ _ _. refl)

-- What a lawful layout gives: the position of a place of a group is the one position that holds it, and a group is short.
use Rattle.std.proofs.Common.{◌≡◌, ℕ, ◌<◌, ◌≤◌, Bool, true, ◌&&◌, eqb, sym, ◌∙◌, subst, arith}
use Rattle.std.proofs.lemmas.Nat.{mul-le}
use Rattle.std.proofs.lemmas.Bool.Decides.{nat_tests}
use Rattle.theory.specs.Layouts.{Layout, Kind, LayoutLaws, LawfulLayout, position_of, group_height, group_width}
use Rattle.theory.proofs.Searches.{first_from_finds}

-- position i holds row d and column e of plane p
abbrev pub Holds : Layout → ℕ → ℕ → ℕ → ℕ → Type 0
Holds l p d e i = (i < l.positions) × (l.plane i ≡ p) × (l.row i ≡ d) × (l.column i ≡ e)

module _ (k : Kind) (depth : ℕ) (l : Layout) (w : LayoutLaws k depth l) where
  -- the position that holds a place is its position
  pub position_found : (p d e i : ℕ) → Holds l p d e i → position_of l p d e ≡ i
  position_found p d e i h =
      let f : ℕ → Bool = λ j. eqb (l.plane j) p && eqb (l.row j) d && eqb (l.column j) e in
      let j = position_of l p d e in
      let here : f i ≡ true = grind (arith, nat_tests) in
      let r = first_from_finds f l.positions 0 i (omega arith) (omega arith) here in
      let there : f j ≡ true = r.1 in
      let same : (l.plane j ≡ p) × (l.row j ≡ d) × (l.column j ≡ e) = grind (arith, nat_tests) in
      w.once j i (omega (arith, r.0)) h.0 (same.0 ∙ sym h.1) (same.1 ∙ sym h.2) (same.2 ∙ sym h.3)

  -- each place of a group has a position
  pub position_named : (p d e : ℕ) → p < k.planes → d < group_height k l p → e < group_width l p → Holds l p d e (position_of l p d e)
  position_named p d e hp hd he =
      let n = w.named p d e hp hd he in
      let held : Holds l p d e n.0 = (n.1, n.2, n.3, n.4) in
      subst (Holds l p d e) (sym (position_found p d e n.0 held)) held

-- a group has at most 24 samples of 16 bits, in 48 octets
pub few_octets : (k : Kind) (depth : ℕ) → LawfulLayout k depth → (k.layout depth).octets ≤ 48
few_octets k depth w =
    omega (arith, w.bits, mul-le (k.layout depth).positions depth 24 16 w.positions_range.1 w.depth_range.1)

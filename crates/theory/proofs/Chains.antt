-- Segments one after another: what a cut gives.
use Rattle.std.proofs.Common.{◌≡◌, ℕ, zero, suc, ◌+◌, ◌*◌, ◌%◌, ◌<◌, ◌≤◌, List, [], ◌∷◌, length, refl, ap, inl, inr, not-suc-le-zero, arith}
use Rattle.std.proofs.lemmas.Bool.{cases_lt}
use Rattle.theory.specs.Formats.{Part, layout_of, row_groups, groups}
use Rattle.theory.specs.Cutting.{Segment, cut_groups}
use Rattle.theory.proofs.Framing.{seg, SegmentFits}
use Rattle.theory.proofs.Limits.{Limits, row_inside, offset_inside}

-- from group g on, without a gap, each segment inside one unit row of the part
abbrev pub Chain : Part → ℕ → List Segment → Type 0
Chain t g [] = Unit {0}
Chain t g (s ∷ ss) =
    (s.first ≡ g) × (0 < s.count) × (g < groups t) × (g % row_groups t.format + s.count ≤ row_groups t.format)
    × Chain t (g + s.count) ss

-- the groups of the first i segments
abbrev pub before : List Segment → ℕ → ℕ
before [] i = 0
before (s ∷ ss) zero = 0
before (s ∷ ss) (suc i) = s.count + before ss i

pub before_suc : (ss : List Segment) (i : ℕ) → i < length ss → before ss (suc i) ≡ before ss i + (seg ss i).count
before_suc [] i h = absurd (not-suc-le-zero h)
before_suc (s ∷ []) zero h = omega arith
before_suc (s ∷ x ∷ ss) zero h = omega arith
before_suc (s ∷ ss) (suc i) h = omega (arith, before_suc ss i (omega arith))

pub before_all : (ss : List Segment) → before ss (length ss) ≡ cut_groups ss
before_all [] = refl
before_all (s ∷ ss) = ap (λ x. s.count + x) (before_all ss)

pub record Link (t : Part) (g : ℕ) (ss : List Segment) (i : ℕ) : Type 0 where
  pub first_is : (seg ss i).first ≡ g + before ss i
  pub some : 0 < (seg ss i).count
  pub inside : (seg ss i).first < groups t
  pub in_row : (seg ss i).first % row_groups t.format + (seg ss i).count ≤ row_groups t.format

pub link : (t : Part) (g : ℕ) (ss : List Segment) (i : ℕ) → Chain t g ss → i < length ss → Link t g ss i
link t g [] i c h = absurd (not-suc-le-zero h)
link t g (s ∷ ss) zero c h = record { first_is = omega (arith, c.0); some = c.1; inside = rw c.0 c.2; in_row = rw c.0 c.3 }
link t g (s ∷ ss) (suc i) c h =
    let n = link t (g + s.count) ss i c.4 (omega arith) in
    record { first_is = omega (arith, n.first_is); some = n.some; inside = n.inside; in_row = n.in_row }

-- a segment of a chain meets the limits
pub link_fits : (t : Part) → Limits t → (g : ℕ) (ss : List Segment) (i : ℕ) → Link t g ss i
    → (seg ss i).count * (layout_of t.format).octets ≤ 1438 → SegmentFits t (seg ss i)
link_fits t w g ss i n b =
    let r = row_inside t w (seg ss i).first n.inside in
    let o = offset_inside t w (seg ss i).first in
    record { short = omega arith; row_small = omega (arith, w.rows_small); offset_small = omega (arith, w.width_range.1) }

-- the segment that holds a group
pub holder : (t : Part) (g : ℕ) (ss : List Segment) (h : ℕ) → Chain t g ss → g ≤ h → h < g + cut_groups ss
    → (i : ℕ) × (i < length ss) × ((seg ss i).first ≤ h) × (h < (seg ss i).first + (seg ss i).count)
holder t g [] h c l u = absurd (not-suc-le-zero {n = g} (omega arith))
holder t g (s ∷ ss) h c l u = elim (cases_lt h (g + s.count)) [
  | inl m ↦ (0, omega arith, omega (arith, c.0), omega (arith, c.0))
  | inr m ↦ let r = holder t (g + s.count) ss h c.4 m (omega arith) in (suc r.0, omega (arith, r.1), r.2, r.3)
]

pub before_le : (ss : List Segment) (i : ℕ) → i < length ss → before ss i + (seg ss i).count ≤ cut_groups ss
before_le [] i h = absurd (not-suc-le-zero h)
before_le (s ∷ ss) zero h = omega arith
before_le (s ∷ ss) (suc i) h = omega (arith, before_le ss i (omega arith))

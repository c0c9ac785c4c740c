-- What a lawful part gives in numbers.
use Rattle.std.proofs.Common.{◌≡◌, ℕ, ◌+◌, ◌-◌, ◌*◌, ◌/◌, ◌%◌, ◌<◌, ◌≤◌, true, cond, ◌&&◌, eqb, leb, ◌⊎◌, inl, inr, ⊎_elim, mul-pos, arith}
use Rattle.std.proofs.lemmas.Bool.{cond_both, and_parts, or_cases, eqb-true, leb-true, ltb-true, both_ways}
use Rattle.std.proofs.lemmas.Nat.{div_below, mod_below}
use Rattle.theory.specs.Layouts.{LawfulLayout}
use Rattle.theory.specs.Formats.{Part, Format, layout_of, row_groups, rows, groups, unit_rows, LawfulPart}
use Rattle.theory.proofs.Searches.{below_ceil, ceil_above}

pub record Limits (t : Part) : Type 0 where
  pub layout : LawfulLayout t.format.kind t.format.depth
  pub octets_pos : 0 < (layout_of t.format).octets
  pub width_range : (1 ≤ t.format.width) × (t.format.width ≤ 32767)
  pub rows_pos : 0 < rows t
  pub rows_small : rows t ≤ 32767
  pub type_range : (96 ≤ t.format.payload_type) × (t.format.payload_type ≤ 127)
  pub field_small : t.field ≤ 1
  pub row_pos : 0 < row_groups t.format
  pub modes : (t.format.mode ≡ 1) ⊎ ((t.format.mode ≡ 2) × (180 % (layout_of t.format).octets ≡ 0)
      × (630 ≤ row_groups t.format * (layout_of t.format).octets))

pub limits : (t : Part) → LawfulPart t → Limits t
limits t part =
    let f : Format = t.format in
    let a = and_parts _ _ part.format_allowed in
    let b = and_parts _ _ a.0 in
    let c = and_parts _ _ b.0 in
    let d = and_parts _ _ c.0 in
    let e = and_parts _ _ d.0 in
    let pos : 0 < (layout_of f).octets = ltb-true _ _ e.0 in
    let w = and_parts (leb 1 f.width) (leb f.width 32767) e.1 in
    let hh = and_parts (leb 1 f.height) (leb f.height 32767) d.1 in
    let pt = and_parts (leb 96 f.payload_type) (leb f.payload_type 127) c.1 in
    let wide : 1 ≤ f.width = leb-true _ _ w.0 in
    let high : f.height ≤ 32767 = leb-true _ _ hh.1 in
    let lay = part.lawful_kind.at_depth f.depth pos in
    let one_field : t.field ≤ cond (eqb f.scan 0) 0 1 = leb-true _ _ part.field_allowed in
    let small : t.field ≤ 1 = cond_both (eqb f.scan 0) 0 1 (λ x. t.field ≤ x → t.field ≤ 1) (λ _ m. omega arith) (λ _ m. m) one_field in
    record {
      layout = lay;
      octets_pos = pos;
      width_range = (wide, leb-true _ _ w.1);
      rows_pos = cond_both (eqb f.scan 0) f.height ((f.height + 1 - t.field) / 2) (λ x. 0 < x) (λ _. leb-true _ _ hh.0) (λ e.
          ⊎_elim (λ y. absurd (both_ways _ e y)) (λ y. let two : 2 ≤ f.height = leb-true _ _
          (and_parts _ _ (and_parts _ _ y).0).1 in omega arith) (or_cases _ _ b.1));
      rows_small = cond_both (eqb f.scan 0) f.height ((f.height + 1 - t.field) / 2) (λ x. x ≤ 32767) (λ _. high) (λ _. omega arith);
      type_range = (leb-true _ _ pt.0, leb-true _ _ pt.1);
      field_small = small;
      row_pos = ceil_above 0 f.width (layout_of f).columns lay.columns_range.0 (omega arith);
      modes = modes_of (or_cases _ _ a.1);
    }
  where
    modes_of : (eqb t.format.mode 1 ≡ true) ⊎
        ((eqb t.format.mode 2 && eqb (180 % (layout_of t.format).octets) 0 && leb 630
        (row_groups t.format * (layout_of t.format).octets)) ≡ true)
        → (t.format.mode ≡ 1) ⊎ ((t.format.mode ≡ 2) × (180 % (layout_of t.format).octets ≡ 0)
        × (630 ≤ row_groups t.format * (layout_of t.format).octets))
    modes_of (inl e) = inl (eqb-true t.format.mode 1 e)
    modes_of (inr e) =
        let x = and_parts (eqb t.format.mode 2 && eqb (180 % (layout_of t.format).octets) 0)
        (leb 630 (row_groups t.format * (layout_of t.format).octets)) e in
        let y = and_parts (eqb t.format.mode 2) (eqb (180 % (layout_of t.format).octets) 0) x.0 in
        inr (
          eqb-true t.format.mode 2 y.0,
          eqb-true (180 % (layout_of t.format).octets) 0 y.1,
          leb-true 630 (row_groups t.format * (layout_of t.format).octets) x.1,
        )

-- the row and the offset of a group
pub row_inside : (t : Part) → Limits t → (g : ℕ) → g < groups t → (g / row_groups t.format) * t.format.kind.rows < rows t
row_inside t w g h =
    below_ceil (g / row_groups t.format) (rows t) t.format.kind.rows w.layout.rows_range.0
    (div_below g (row_groups t.format) (unit_rows t) w.row_pos h)

pub offset_inside : (t : Part) → Limits t → (g : ℕ) → (g % row_groups t.format) * (layout_of t.format).columns < t.format.width
offset_inside t w g =
    below_ceil (g % row_groups t.format) t.format.width (layout_of t.format).columns w.layout.columns_range.0
    (mod_below g (row_groups t.format) w.row_pos)

-- a part has groups
pub groups_pos : (t : Part) → Limits t → 0 < groups t
groups_pos t w = mul-pos (ceil_above 0 (rows t) t.format.kind.rows w.layout.rows_range.0 (omega (arith, w.rows_pos))) w.row_pos

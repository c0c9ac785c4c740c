-- Where the positions of a group lie: each in its own place, and no other place of the part is there.
use Rattle.std.proofs.Common.{◌≡◌, ℕ, ◌+◌, ◌*◌, ◌/◌, ◌%◌, ◌<◌, sym, refl, ap, ◌∙◌, ap₂, div-add-mod'}
use Rattle.std.proofs.lemmas.Nat.{div-mul-add, mod-mul-add, mod_below}
use Rattle.theory.specs.Layouts.{Layout, LawfulLayout, group_height, group_width, position_of}
use Rattle.theory.specs.Formats.{Part, layout_of, row_groups, plane_width}
use Rattle.theory.specs.Groups.{place_row, place_column, group_of, position_in_group}
use Rattle.theory.proofs.Places.{group_height_pos, group_width_pos, in_row}
use Rattle.theory.proofs.Positions.{position_found, position_named}

module _ (t : Part) (w : LawfulLayout t.format.kind t.format.depth) where
  -- the place of position k of a group is in that group, at k
  pub place_is : (g k : ℕ) → k < (layout_of t.format).positions
      → (group_of t ((layout_of t.format).plane k) (place_row t g k) (place_column t g k) ≡ g)
      × (position_in_group t ((layout_of t.format).plane k) (place_row t g k) (place_column t g k) ≡ k)
  place_is g k h =
      let l : Layout = layout_of t.format in
      let p : ℕ = l.plane k in
      let H : ℕ = group_height t.format.kind l p in
      let W : ℕ = group_width l p in
      let R : ℕ = row_groups t.format in
      let i = w.inside k h in (
        ap₂ (λ x y. x * R + y) (div-mul-add (g / R) H (l.row k) i.1) (div-mul-add (g % R) W (l.column k) i.2) ∙ div-add-mod' g R,
        ap₂ (λ x y. position_of l p x y) (mod-mul-add (g / R) H (l.row k) i.1) (mod-mul-add (g % R) W (l.column k) i.2)
            ∙ position_found t.format.kind t.format.depth l w p (l.row k) (l.column k) k (h, refl, refl, refl),
      )

  -- the position of a place of a plane
  pub position_small : (p r c : ℕ) → p < t.format.kind.planes → position_in_group t p r c < (layout_of t.format).positions
  position_small p r c h =
      let l : Layout = layout_of t.format in
      (position_named t.format.kind t.format.depth l w p (r % group_height t.format.kind l p) (c % group_width l p) h
      (mod_below r _ (group_height_pos t w p h)) (mod_below c _ (group_width_pos t w p h))).0

  -- and no other place is there
  pub place_only : (g k p r c : ℕ) → p < t.format.kind.planes → c < plane_width t p → group_of t p r c ≡ g → position_in_group t p r c ≡ k
      → (p ≡ (layout_of t.format).plane k) × (r ≡ place_row t g k) × (c ≡ place_column t g k)
  place_only g k p r c hp hc eg ek =
      let l : Layout = layout_of t.format in
      let R : ℕ = row_groups t.format in
      let H : ℕ = group_height t.format.kind l p in
      let W : ℕ = group_width l p in
      let n = position_named t.format.kind t.format.depth l w p (r % H) (c % W) hp
      (mod_below r H (group_height_pos t w p hp)) (mod_below c W (group_width_pos t w p hp)) in
      let lt : c / W < R = in_row t w p c hp hc in
      let eu : r / H ≡ g / R = sym (div-mul-add (r / H) R (c / W) lt) ∙ ap (λ x. x / R) eg in
      let ea : c / W ≡ g % R = sym (mod-mul-add (r / H) R (c / W) lt) ∙ ap (λ x. x % R) eg in
      let ep : l.plane k ≡ p = ap l.plane (sym ek) ∙ n.1 in
      let er : l.row k ≡ r % H = ap l.row (sym ek) ∙ n.2 in
      let ec : l.column k ≡ c % W = ap l.column (sym ek) ∙ n.3 in (
        sym ep,
        sym (div-add-mod' r H) ∙ ap₂ (λ x y. x * H + y) eu (sym er)
            ∙ ap (λ q. (g / R) * group_height t.format.kind l q + l.row k) (sym ep),
        sym (div-add-mod' c W) ∙ ap₂ (λ x y. x * W + y) ea (sym ec)
            ∙ ap (λ q. (g % R) * group_width l q + l.column k) (sym ep),
      )

-- The grid of a store: that of the frame where the check passes, the empty one where it refuses.
use Rattle.std.proofs.Common.{◌≡◌, ℕ, zero, suc, ◌+◌, ◌<◌, ◌≤◌, Bool, true, false, cond, not, ◌&&◌, ltb, List, [], ◌∷◌, length, is_ok, Some, None, Ok, Err, Option, Result, sym, refl, ap, ◌∙◌, ap₂, zero-le, not-suc-le-zero, arith, rules, lit≤, replicate}
use mathlib.Core.Path.{fun_ext}
use native.Mathlib.Bridge.{le_prop}
use Rattle.std.proofs.lemmas.Bool.{ltb-false, cond-true, cond-false, and_left, le-ltb, not_from_false, both_ways, false≢true}
use Rattle.std.specs.Prelude.{slice_get}
use Rattle.std.specs.Option.{option_map_or}
use Rattle.refusals.specs.declared.Refusal.{Refusal}
use Rattle.refusals.specs.Numbers.{numbered}
use Rattle.theory.specs.Answers.{first_row, is_none, verdict}
use Rattle.theory.specs.Formats.{Format, layout_of, lawful_format}
use Rattle.theory.specs.Layouts.{LawfulKind, LawfulLayout}
use Rattle.theory.specs.Pictures.{no_picture}
use Rattle.formats.specs.Frames.{frame_of, packed_octets}
use Rattle.packed.specs.declared.grid.Grid.{Grid}
use Rattle.packed.specs.declared.grid.Place.{Place}
use Rattle.packed.specs.declared.grid.PlaneSizes.{PlaneSizes}
use Rattle.packed.specs.BitRuns.{bit_at, run_at}
use Rattle.packed.specs.Packs.{Covered, accepted, packed_picture, bit_beside}
use Rattle.packed.specs.Grids.{width_at, height_at, first_bit, bit_plane, bit_row, bit_column, no_sizes, empty_grid, grid_picture, grid_beside, Copies, Sound, Made}
use Rattle.packed.proofs.Linking.{same_bit, same_picture, same_beside, copies_sound}

-- an answer is good where nothing refuses
pub good : (r : Result (Unit {0}) Refusal) (o : Option ℕ) → numbered r ≡ verdict o → is_ok r ≡ is_none o
good (Ok x) None e = refl
good (Ok x) (Some n) e = absurd (let z : ◌≡◌ {A = ℕ} 0 1 = cc in omega arith)
good (Err x) None e = absurd (let z : ◌≡◌ {A = ℕ} 0 1 = cc in omega arith)
good (Err x) (Some n) e = refl

-- what the check found
found : (a b : Bool) → is_none (first_row ((not a, 4) ∷ (b, 3) ∷ [])) ≡ true → (a ≡ true) × (b ≡ false)
found true false e = (refl, refl)
found true true e = absurd (false≢true e)
found false b e = absurd (false≢true e)

-- a lawful format's depth is one of its kind's
pub has_octets : (f : Format) → lawful_format f ≡ true → 0 < (layout_of f).octets
has_octets f e = search rules

pub lawful_at : (f : Format) → LawfulKind f.kind → lawful_format f ≡ true → LawfulLayout f.kind f.depth
lawful_at f law e = law.at_depth f.depth (has_octets f e)

module _ (f : Format) (room : ℕ) where
  -- the check finds the same over every list as long
  alike : (b : Bool) → accepted f room ≡ b → (m : List ℕ) → length m ≡ room → accepted f (length m) ≡ b
  alike b e m l = ap (accepted f) l ∙ e

  pub made : (g : Grid) → LawfulKind f.kind → accepted f room ≡ true → Copies g (frame_of f) → Made f room g
  made g law e copies =
      let t = frame_of f in
      let passed = found (lawful_format f) (ltb room (packed_octets f)) e in
      let w = lawful_at f law passed.0 in
      let long : packed_octets f ≤ room = ltb-false room (packed_octets f) passed.1 in
      record {
        sound = copies_sound g t copies w room long;
        picture = λ m l octets. same_picture g t copies w m (omega arith) octets
            ∙ sym (cond-true (accepted f (length m)) (packed_picture t m) no_picture (alike true e m l));
        beside = λ m l. same_beside g t copies m ∙ sym (ap (λ b k. cond b (bit_beside t m k) (bit_at m k)) (alike true e m l));
        first = λ _. same_bit g t copies;
      }

-- a grid of the empty one's numbers is the empty one
pub same_empty : (covered : Covered 0 0 0) (deep : 1 ≤ 1) (narrow : 1 ≤ 16) (few : 0 ≤ 24) (x : Place) → x.plane ≡ 0 → x.row ≡ 0 → x.column ≡ 0
    → ◌≡◌ {A = Grid} (record {
      plane_count = 0;
      depth = 1;
      planes = replicate 3 (record { width = 0; height = 0; group_width = 0; group_height = 0; covered = covered });
      row_groups = 0;
      octets = 0;
      positions = 0;
      places = replicate 24 x;
      size = 0;
      deep = deep;
      narrow = narrow;
      few = few;
    }) empty_grid
same_empty covered deep narrow few x plane row column =
    let never : covered ≡ (λ h. absurd (not-suc-le-zero h)) = fun_ext (λ h. absurd (not-suc-le-zero h)) in
    λ i. record {
      plane_count = 0;
      depth = 1;
      planes = replicate 3 (record { width = 0; height = 0; group_width = 0; group_height = 0; covered = never i });
      row_groups = 0;
      octets = 0;
      positions = 0;
      places = replicate 24 (record { plane = plane i; row = row i; column = column i });
      size = 0;
      deep = le_prop deep (lit≤ tt) i;
      narrow = le_prop narrow (lit≤ tt) i;
      few = le_prop few (lit≤ tt) i;
    }

-- the empty grid has no rows and no columns, so no place
no_size : (told : PlaneSizes → ℕ) → told no_sizes ≡ 0 → (p : ℕ) → option_map_or told (slice_get empty_grid.planes p) 0 ≡ 0
no_size told e zero = e
no_size told e (suc zero) = e
no_size told e (suc (suc zero)) = e
no_size told e (suc (suc (suc p))) = refl

no_rows : (p : ℕ) → height_at empty_grid p ≡ 0
no_rows = no_size (λ x. x.height) refl

no_columns : (p : ℕ) → width_at empty_grid p ≡ 0
no_columns = no_size (λ x. x.width) refl

nowhere : (p r c : ℕ) → (ltb r (height_at empty_grid p) && ltb c (width_at empty_grid p)) ≡ false
nowhere p r c = and_left (ltb r (height_at empty_grid p)) (ltb c (width_at empty_grid p)) (le-ltb r (height_at empty_grid p) (omega (arith, no_rows p)))

empty_sound : (room : ℕ) → Sound empty_grid room
empty_sound room = record {
  none = λ p h. ap₂ (λ x y. x + y) (no_columns p) (no_rows p);
  within = λ p r c h. absurd (omega (arith, no_rows p, h.0));
  owned = λ x k h. absurd (omega (arith, no_rows x.0, h.0));
  long = zero-le;
}

empty_picture : (m : List ℕ) → grid_picture empty_grid m ≡ no_picture
empty_picture m = λ i. record {
  planes = 0;
  width = λ p. no_columns p i;
  height = λ p. no_rows p i;
  depth = 1;
  sample = λ p r c. cond-false (ltb r (height_at empty_grid p) && ltb c (width_at empty_grid p)) (run_at m (first_bit empty_grid p r c) 1) 0
      (nowhere p r c) i;
}

empty_beside : (m : List ℕ) → grid_beside empty_grid m ≡ bit_at m
empty_beside m = fun_ext (λ k.
    let p = bit_plane empty_grid k in
    let r = bit_row empty_grid k in
    let c = bit_column empty_grid k in
    let some = ltb r (height_at empty_grid p) && ltb c (width_at empty_grid p) in
    cond-true (not some) (bit_at m k) 0 (not_from_false some (nowhere p r c)))

pub refused : (f : Format) (room : ℕ) → accepted f room ≡ false → Made f room empty_grid
refused f room e = record {
  sound = empty_sound room;
  picture = λ m l octets. empty_picture m
      ∙ sym (cond-false (accepted f (length m)) (packed_picture (frame_of f) m) no_picture (alike f room false e m l));
  beside = λ m l. empty_beside m ∙ sym (ap (λ b k. cond b (bit_beside (frame_of f) m k) (bit_at m k)) (alike f room false e m l));
  first = λ t. absurd (both_ways (accepted f room) e t);
}

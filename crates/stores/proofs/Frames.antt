-- The shape of a store made for a format: what the store keeps of it, and its picture.
use Rattle.std.proofs.Common.{◌≡◌, ℕ, zero, suc, ◌+◌, ◌<◌, ◌≤◌, Bool, true, false, cond, ltb, List, length, drop, sym, refl, ap, ◌∙◌, zero-add, arith, lit≤}
use mathlib.Core.Path.{fun_ext}
use Rattle.std.proofs.lemmas.Nat.{pow_pos}
use Rattle.std.proofs.lemmas.Bool.{cond_both, cond-false, le-ltb, ltb-true, and_parts, and_left}
use Rattle.theory.specs.Answers.{is_none}
use Rattle.theory.specs.Layouts.{LawfulKind, LawfulLayout}
use Rattle.theory.specs.Formats.{Format, layout_of, plane_width, plane_height, lawful_format}
use Rattle.theory.specs.Pictures.{no_picture, with_samples}
use Rattle.formats.specs.Frames.{frame_of, planar_words}
use Rattle.stores.specs.Words.{plane_start, in_words, blank_frame, planar_refusal, planar_frame}
use Rattle.stores.specs.Shapes.{LaidOut, no_plane, plane_of, blank, shape_picture, words_behind, frame_shape, no_shape, shape_over}
use Rattle.stores.proofs.Checks.{check_passed}

-- no plane of the shape without planes is there
absent : (p : ℕ) → plane_of no_shape p ≡ no_plane
absent zero = refl
absent (suc zero) = refl
absent (suc (suc zero)) = refl
absent (suc (suc (suc p))) = refl

none_starts : (p : ℕ) → p < 3 → (plane_of no_shape p).start ≡ plane_start (blank no_shape).width (blank no_shape).height p
none_starts zero k = refl
none_starts (suc zero) k = refl
none_starts (suc (suc zero)) k = refl
none_starts (suc (suc (suc p))) k = absurd (omega arith)

none_laid : (n : ℕ) → LaidOut no_shape n
none_laid n = record {
  sizes = record {
    depth_range = (lit≤ tt, lit≤ tt);
    no_width = λ p _. ap (λ x. x.size.width) (absent p);
    no_height = λ p _. ap (λ x. x.size.height) (absent p);
    below = λ _ _ _. pow_pos 1;
    outside = λ _ _ _ _. refl;
  };
  few = lit≤ tt;
  starts = none_starts;
  long = omega arith;
}

-- the sum of all planes, begun at 0
from_zero : (a b c n : ℕ) → a + b + c ≤ n → 0 + a + b + c ≤ n
from_zero a b c n h = omega arith

behind_zero : (a b c : ℕ) (ws : List ℕ) → drop (a + b + c) ws ≡ drop (0 + a + b + c) ws
behind_zero a b c ws = ap (λ m. drop (m + b + c) ws) (sym (zero-add a))

module _ (f : Format) where
  no_plane_width : (p : ℕ) → f.kind.planes ≤ p → plane_width (frame_of f) p ≡ 0
  no_plane_width p h = cond-false (ltb p f.kind.planes) _ 0 (le-ltb p f.kind.planes h)

  no_plane_height : (p : ℕ) → f.kind.planes ≤ p → plane_height (frame_of f) p ≡ 0
  no_plane_height p h = cond-false (ltb p f.kind.planes) _ 0 (le-ltb p f.kind.planes h)

  layout : LawfulKind f.kind → lawful_format f ≡ true → LawfulLayout f.kind f.depth
  layout law good =
      let a = and_parts _ _ good in
      let b = and_parts _ _ a.0 in
      let c = and_parts _ _ b.0 in
      let d = and_parts _ _ c.0 in
      let e = and_parts (ltb 0 (layout_of f).octets) _ d.0 in
      law.at_depth f.depth (ltb-true 0 (layout_of f).octets e.0)

  module _ (few : f.kind.planes ≤ 3) where
    widths_are : (p : ℕ) → (blank (frame_shape f)).width p ≡ plane_width (frame_of f) p
    widths_are zero = refl
    widths_are (suc zero) = refl
    widths_are (suc (suc zero)) = refl
    widths_are (suc (suc (suc p))) = sym (no_plane_width (suc (suc (suc p))) (omega arith))

    heights_are : (p : ℕ) → (blank (frame_shape f)).height p ≡ plane_height (frame_of f) p
    heights_are zero = refl
    heights_are (suc zero) = refl
    heights_are (suc (suc zero)) = refl
    heights_are (suc (suc (suc p))) = sym (no_plane_height (suc (suc (suc p))) (omega arith))

  starts_are : (p : ℕ) → p < 3 → (plane_of (frame_shape f) p).start ≡ plane_start (blank (frame_shape f)).width (blank (frame_shape f)).height p
  starts_are zero k = refl
  starts_are (suc zero) k = refl
  starts_are (suc (suc zero)) k = refl
  starts_are (suc (suc (suc p))) k = absurd (omega arith)

  frame_laid : (n : ℕ) → LawfulLayout f.kind f.depth → planar_words f ≤ n → LaidOut (frame_shape f) n
  frame_laid n laws fits = record {
    sizes = record {
      depth_range = (omega (arith, laws.depth_range.0), laws.depth_range.1);
      no_width = λ p h. widths_are laws.planes_range.1 p ∙ no_plane_width p h;
      no_height = λ p h. heights_are laws.planes_range.1 p ∙ no_plane_height p h;
      below = λ _ _ _. pow_pos f.depth;
      outside = λ _ _ _ _. refl;
    };
    few = laws.planes_range.1;
    starts = starts_are;
    long = from_zero _ _ _ n fits;
  }

-- the same sizes, the same picture
same_words : (planes depth : ℕ) (w w' h h' : ℕ → ℕ) (ws : List ℕ) → w ≡ w' → h ≡ h'
    → in_words (record { planes = planes; width = w; height = h; depth = depth; sample = λ _ _ _. 0 }) ws
    ≡ in_words (record { planes = planes; width = w'; height = h'; depth = depth; sample = λ _ _ _. 0 }) ws
same_words planes depth w w' h h' ws x y = cc

none_picture : (ws : List ℕ) → shape_picture no_shape ws ≡ no_picture
none_picture ws =
    same_words 0 1 (blank no_shape).width (λ _. 0) (blank no_shape).height (λ _. 0) ws
    (fun_ext (λ p. ap (λ x. x.size.width) (absent p))) (fun_ext (λ p. ap (λ x. x.size.height) (absent p)))
    ∙ ap (with_samples no_picture) (fun_ext (λ p. fun_ext (λ r. fun_ext (λ c. cond-false _ _ 0 (and_left (ltb r 0) (ltb c 0) (le-ltb r 0 (omega arith)))))))

module _ (f : Format) (law : LawfulKind f.kind) where
  -- a store made for the format is laid out, and its picture is the format's
  pub over_laid : (n : ℕ) → LaidOut (shape_over f n) n
  over_laid n =
      cond_both (is_none (planar_refusal f n)) (frame_shape f) no_shape (λ s. LaidOut s n)
      (λ e. let passed = check_passed f n e in frame_laid f n (layout f law passed.0) passed.1)
      (λ _. none_laid n)

  pub over_picture : (n : ℕ) (ws : List ℕ) → length ws ≡ n → shape_picture (shape_over f n) ws ≡ planar_frame f ws
  over_picture n ws e = ap (λ m. shape_picture (shape_over f m) ws) (sym e) ∙ go (is_none (planar_refusal f (length ws))) refl
    where
      go : (b : Bool) → is_none (planar_refusal f (length ws)) ≡ b
          → shape_picture (cond b (frame_shape f) no_shape) ws ≡ cond b (in_words (blank_frame f) ws) no_picture
      go true passed =
          let few = (layout f law (check_passed f (length ws) passed).0).planes_range.1 in
          same_words f.kind.planes f.depth _ _ _ _ ws (fun_ext (widths_are f few)) (fun_ext (heights_are f few))
      go false refused = none_picture ws

-- words that a store made for the format leaves as they were behind its planes are so behind the frame's words
pub over_behind : (f : Format) (n : ℕ) (ws ws' : List ℕ)
    → words_behind (shape_over f n) ws ≡ words_behind (shape_over f n) ws' → drop (planar_words f) ws ≡ drop (planar_words f) ws'
over_behind f n ws ws' = go (is_none (planar_refusal f n))
  where
    go : (b : Bool) → words_behind (cond b (frame_shape f) no_shape) ws ≡ words_behind (cond b (frame_shape f) no_shape) ws'
        → drop (planar_words f) ws ≡ drop (planar_words f) ws'
    go true e = behind_zero _ _ _ ws ∙ e ∙ sym (behind_zero _ _ _ ws')
    go false e = ap (drop (planar_words f)) e

-- The word of a place, or the words of a row's columns, and that a put there is taken.
use Rattle.std.proofs.Common.{◌≡◌, ℕ, ◌+◌, ◌*◌, ◌^◌, ◌<◌, ◌≤◌, Bool, true, false, cond, not, ◌&&◌, ltb, leb, List, [], ◌∷◌, length, set, Some, None, Ok, refl, sym, subst, ap, ◌∙◌, inl, inr, add-one, arith}
use Rattle.std.proofs.lemmas.Bool.{lt-leb, leb-true, ltb-true, and_parts, cases_lt}
use Rattle.std.specs.Option.{ok_or}
use Rattle.theory.specs.Answers.{first_row, is_none}
use Rattle.theory.specs.Pictures.{Picture, inside, columns_inside, put, put_refusal, put_after}
use Rattle.stores.specs.Words.{word_at, in_words}
use Rattle.stores.specs.declared.shape.Plane.{Plane}
use Rattle.stores.specs.declared.shape.Shape.{Shape}
use Rattle.refusals.specs.declared.Refusal.TheVariants.{NoSuchPlace}
use Rattle.stores.specs.Shapes.{LaidOut, plane_of, blank, place_word, first_word, shape_words}
use Rattle.stores.proofs.Places.{run_before, put_word}

-- a word that is found is the place's, and there is such a place
found : (b : Bool) (n at : ℕ) → Ok at ≡ ok_or (cond b (Some n) None) NoSuchPlace → (at ≡ n) × (b ≡ true)
found true n at e = (cc, refl)
found false n at e = absurd cc

pub word_found : (v : Picture) (p r c at : ℕ) → Ok at ≡ ok_or (place_word v p r c) NoSuchPlace → (at ≡ word_at v p r c) × (inside v p r c ≡ true)
word_found v p r c at = found (inside v p r c) (word_at v p r c) at

pub first_found : (v : Picture) (p r c n at : ℕ) → Ok at ≡ ok_or (first_word v p r c n) NoSuchPlace → (at ≡ word_at v p r c) × (columns_inside v p r c n ≡ true)
first_found v p r c n at = found (columns_inside v p r c n) (word_at v p r c) at

-- the words of n columns of a row lie in the planes
module _ (s : Shape) (m : ℕ) (laid : LaidOut s m) (p r c : ℕ) where
  plane_there : (n : ℕ) → columns_inside (blank s) p r c n ≡ true → p < 3
  plane_there n i =
      let row = ltb-true r ((blank s).height p) (and_parts _ _ i).0 in
      elim (cases_lt p 3) [ inl h ↦ h | inr h ↦ absurd (omega (arith, row, laid.few, laid.sizes.no_height p (omega (arith, laid.few)))) ]

  pub words_inside : (n : ℕ) → columns_inside (blank s) p r c n ≡ true → word_at (blank s) p r c + n ≤ shape_words s
  words_inside n i =
      let v = blank s in
      let both = and_parts (ltb r (v.height p)) (leb (c + n) (v.width p)) i in
      run_before v.width v.height p 3 r c n (plane_there n i) (ltb-true r (v.height p) both.0) (leb-true (c + n) (v.width p) both.1)

  pub word_inside : inside (blank s) p r c ≡ true → word_at (blank s) p r c < shape_words s
  word_inside i = omega (arith, words_inside 1 (ap (λ n. ltb r ((blank s).height p) && leb n ((blank s).width p)) (add-one c) ∙ i))

  pub run_inside : (n : ℕ) (q : Plane) → q ≡ plane_of s p → true ≡ (ltb r q.size.height && leb (c + n) q.size.width)
      → q.start + r * q.size.width + c + n ≤ shape_words s
  run_inside n q e =
      let P : Plane → Type 0 = λ q. true ≡ (ltb r q.size.height && leb (c + n) q.size.width) → q.start + r * q.size.width + c + n ≤ shape_words s in
      subst P (sym e) (λ i. omega (arith, laid.starts p (plane_there n (sym i)), words_inside n (sym i)))

rows : (i large : Bool) → i ≡ true → large ≡ false → first_row ((not i, 1) ∷ (large, 2) ∷ []) ≡ None
rows i large x y = cc

-- a put of a value below the limit at a place of the picture is not refused
pub put_taken : (v : Picture) (p r c x : ℕ) → inside v p r c ≡ true → x < 2 ^ v.depth → put_refusal v p r c x ≡ None
put_taken v p r c x i h = rows (inside v p r c) (leb (2 ^ v.depth) x) i (lt-leb (2 ^ v.depth) x h)

-- and it makes that value the place's word
pub put_written : (v : Picture) (ws : List ℕ) (p r c x at : ℕ) → at ≡ word_at v p r c → at < length ws → inside v p r c ≡ true → x < 2 ^ v.depth
    → in_words v (set ws at x) ≡ put_after (in_words v ws) p r c x
put_written v ws p r c x at here within place small =
    ap (λ n. in_words v (set ws n x)) here
    ∙ put_word v ws p r c x (omega arith) place small
    ∙ sym (ap (λ o. cond (is_none o) (put (in_words v ws) p r c x) (in_words v ws)) (put_taken v p r c x place small))

-- Putting a row into a field is to put it into the frame.
use Rattle.std.proofs.Common.{◌≡◌, ℕ, ◌+◌, ◌-◌, ◌*◌, ◌^◌, Bool, true, false, cond, not, ◌&&◌, eqb, ltb, leb, List, [], ◌∷◌, length, get_or, Some, None, Ok, sym, refl, ap, ◌∙◌, inl, inr, arith}
use mathlib.Core.Path.{fun_ext}
use Rattle.std.proofs.lemmas.Bool.{le-ltb, eq-eqb, ne_eqb, cases_eq, cond-true, cond-false}
use Rattle.std.specs.Option.{ok_or}
use Rattle.refusals.specs.declared.Refusal.TheVariants.{NoSuchPlace}
use Rattle.theory.specs.Octets.{all_below}
use Rattle.theory.specs.Answers.{first_row, is_none}
use Rattle.theory.specs.Pictures.{Picture, put_row, put_row_refusal, put_row_after, with_samples, field_of, no_picture}
use Rattle.stores.specs.Fields.{field_picture, frame_row, row_inside}

-- a row that is found is the frame's, and the field is one
pub found : (v : Picture) (f p r row : ℕ) → Ok row ≡ ok_or (frame_row v f p r) NoSuchPlace → (row ≡ 2 * r + f) × (leb f 1 ≡ true)
found v f p r row = go (leb f 1)
  where
    some : (b : Bool) (n : ℕ) → Ok row ≡ ok_or (cond b (Some n) None) NoSuchPlace → row ≡ n
    some true n e = cc
    some false n e = cc

    go : (b : Bool) → Ok row ≡ ok_or (cond (ltb r ((cond b (field_of v f) no_picture).height p)) (Some (2 * r + f)) None) NoSuchPlace → (row ≡ 2 * r + f) × (b ≡ true)
    go true e = (some (ltb r ((field_of v f).height p)) (2 * r + f) e, refl)
    go false e = absurd (let z : ◌≡◌ {A = ℕ} 0 1 = cc (cond-false (ltb r 0) (Some (2 * r + f)) None (le-ltb r 0 (omega arith))) in omega arith)

same_row : (f s r : ℕ) → eqb (2 * s + f) (2 * r + f) ≡ eqb s r
same_row f s r = elim (cases_eq s r) [
  | inl e ↦ eq-eqb (2 * s + f) (2 * r + f) (omega arith) ∙ sym (eq-eqb s r e)
  | inr n ↦ ne_eqb (2 * s + f) (2 * r + f) (λ e. n (omega arith)) ∙ sym (ne_eqb s r n)
]

-- putting a row into row 2r + f of a frame is to put it into row r of field f
module _ (v : Picture) (f p r c : ℕ) (xs : List ℕ) where
  field_put : field_of (put_row v p (2 * r + f) c xs) f ≡ put_row (field_of v f) p r c xs
  field_put =
      ap (with_samples (field_of v f)) (fun_ext (λ q. fun_ext (λ s. fun_ext (λ d.
      ap (λ b. cond (eqb q p && b && leb c d && ltb d (c + length xs)) (get_or xs (d - c) 0) (v.sample q (2 * s + f) d)) (same_row f s r)))))

  same_refusal : put_row_refusal v p (2 * r + f) c xs ≡ put_row_refusal (field_of v f) p r c xs
  same_refusal =
      ap (λ b. first_row ((not (b && leb (c + length xs) (v.width p)), 1) ∷ (not (all_below (length xs) (λ i. ltb (get_or xs i 0) (2 ^ v.depth))), 2) ∷ []))
      (sym (row_inside (v.height p) f r))

  field_after : field_of (put_row_after v p (2 * r + f) c xs) f ≡ put_row_after (field_of v f) p r c xs
  field_after =
      by (is_none (put_row_refusal v p (2 * r + f) c xs))
      ∙ ap (λ o. cond (is_none o) (put_row (field_of v f) p r c xs) (field_of v f)) same_refusal
    where
      by : (b : Bool) → field_of (cond b (put_row v p (2 * r + f) c xs) v) f ≡ cond b (put_row (field_of v f) p r c xs) (field_of v f)
      by true = field_put
      by false = refl

  pub row_through : leb f 1 ≡ true → field_picture (put_row_after v p (2 * r + f) c xs) f ≡ put_row_after (field_picture v f) p r c xs
  row_through good =
      let is_field : (u : Picture) → field_picture u f ≡ field_of u f = λ u. cond-true (leb f 1) (field_of u f) no_picture good in
      is_field (put_row_after v p (2 * r + f) c xs) ∙ field_after ∙ ap (λ u. put_row_after u p r c xs) (sym (is_field v))

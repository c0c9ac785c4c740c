-- Where a search of a list ends: at the first number that passes, or behind the last.
use Rattle.std.proofs.Common.{◌≡◌, ℕ, suc, ◌+◌, ◌<◌, Bool, cond, List, [], ◌∷◌, length, get_or, Some, sym, ap, ◌∙◌, inl, inr, arith}
use Rattle.std.specs.Option.{unwrap_or}
use Rattle.std.specs.List.{position_from}
use Rattle.std.proofs.lemmas.Bool.{cases_Bool, cond-true, cond-false}
use Rattle.theory.specs.Octets.{first_from}

module _ {A : Type 0} (passes : A → Bool) (f : ℕ → Bool) where
  scan_from : (xs : List A) (a : ℕ) → ((i : ℕ) (e : A) → i < length xs → passes (get_or xs i e) ≡ f (a + i))
      → unwrap_or (position_from passes a xs) (a + length xs) ≡ first_from a (length xs) f
  scan_from [] a same = omega arith
  scan_from (x ∷ xs) a same =
      let start : a + 0 ≡ a = omega arith in
      let here : f a ≡ passes x = ap f (sym start) ∙ sym (same 0 x (omega arith)) in
      let rest = position_from passes (a + 1) xs in
      let end = a + length (x ∷ xs) in
      let more : end ≡ a + 1 + length xs = omega arith in
      elim (cases_Bool (passes x)) [
        | inl e ↦ ap (λ b. unwrap_or (cond b (Some a) rest) end) e ∙ sym (cond-true (f a) a (first_from (a + 1) (length xs) f) (here ∙ e))
        | inr e ↦
            ap (λ b. unwrap_or (cond b (Some a) rest) end) e
            ∙ ap (unwrap_or rest) more
            ∙ scan_from xs (a + 1) (λ i y h. let next : a + suc i ≡ a + 1 + i = omega arith in same (suc i) y (omega arith) ∙ ap f next)
            ∙ sym (cond-false (f a) a (first_from (a + 1) (length xs) f) (here ∙ e))
      ]

  -- elements pass just where their indices do
  pub position_scan : (xs : List A) → ((i : ℕ) (e : A) → i < length xs → passes (get_or xs i e) ≡ f i)
      → unwrap_or (position_from passes 0 xs) (length xs) ≡ first_from 0 (length xs) f
  position_scan xs same =
      let e : length xs ≡ 0 + length xs = omega arith in
      ap (unwrap_or (position_from passes 0 xs)) e
      ∙ scan_from xs 0 (λ i x h. let z : i ≡ 0 + i = omega arith in same i x h ∙ ap f z)

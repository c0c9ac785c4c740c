-- A fold over a list that asks all of its members. Assumes nothing.
use Rattle.std.proofs.Common.{◌≡◌, ℕ, Bool, true, false, ◌&&◌, List, [], ◌∷◌, refl}
use Rattle.std.specs.List.{fold, list_all}

module _ (p : ℕ → Bool) where
  folded : (b : Bool) (xs : List ℕ) → fold (λ all x. all && p x) b xs ≡ (b && list_all p xs)
  folded true [] = refl
  folded false [] = refl
  folded true (x ∷ xs) = folded (p x) xs
  folded false (x ∷ xs) = folded false xs

  pub all_folded : (xs : List ℕ) → fold (λ all x. all && p x) true xs ≡ list_all p xs
  all_folded xs = folded true xs

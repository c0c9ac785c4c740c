-- What the test on samples tells.
use Rattle.std.proofs.Common.{ℕ, ltb, ◌<◌, List, Decides, refl}
use Rattle.std.specs.Int.Digits.{AllBelowBase}
use Rattle.std.proofs.ByRecursion.{Decides-by_and}
use Rattle.std.proofs.lemmas.Bool.Decides.{Decides-ltb}
use Rattle.kinds.specs.Packing.{all_under}

pub under_decides : (limit : ℕ) (xs : List ℕ) → Decides (all_under limit xs) (AllBelowBase limit xs)
under_decides limit = Decides-by_and (λ x. ltb x limit) (λ x. x < limit) (all_under limit) (λ x. Decides-ltb x limit) refl (λ _ _. refl)

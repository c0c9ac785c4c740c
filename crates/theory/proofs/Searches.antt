-- Searches below a number, and division rounded up.
use Rattle.std.proofs.Common.{◌≡◌, ℕ, zero, suc, ◌+◌, ◌-◌, ◌*◌, ◌<◌, ◌≤◌, Bool, true, false, Decides, sym, refl, ap, ◌∙◌, ⊎_elim, add-mul, div-mul-le_self, add-one, arith}
use native.Mathlib.Nat.{lt-div-mul-add}
use Rattle.std.proofs.lemmas.Bool.{cases_Bool, cond-true, cond-false, or_from, both_ways}
use Rattle.std.proofs.lemmas.Bool.Decides.{Decides-below_and, Decides-below_or}
use Rattle.std.proofs.lemmas.Nat.{le-div}
use Rattle.theory.specs.Octets.{ceil_div, first_from, any_below, all_below}

-- a number below a quotient rounded up
pub below_ceil : (x a b : ℕ) → 0 < b → x < ceil_div a b → x * b < a
below_ceil x a b p h =
    let k : ceil_div a b * b ≤ a + (b - 1) = div-mul-le_self (a + (b - 1)) b in
    let m : (x + 1) * b ≤ ceil_div a b * b = native.Mathlib.Nat.mul-le-mul_right b (omega arith) in
    omega (arith, add-mul x 1 b)

pub le_ceil : (a b : ℕ) → 0 < b → a ≤ ceil_div a b * b
le_ceil a b p = omega (arith, lt-div-mul-add {a = a + (b - 1)} p)

pub ceil_above : (x a b : ℕ) → 0 < b → x * b < a → x < ceil_div a b
ceil_above x a b p h = le-div (suc x) (a + (b - 1)) b p (omega (arith, add-mul x 1 b, ap (λ y. y * b) (add-one x)))

-- a search that meets a number that passes ends there or before, at one that passes
pub first_from_finds : (f : ℕ → Bool) (n a i : ℕ) → a ≤ i → i < a + n → f i ≡ true → (first_from a n f ≤ i) × (f (first_from a n f) ≡ true)
first_from_finds f zero a i low high e = absurd (omega arith)
first_from_finds f (suc n) a i low high e =
    ⊎_elim
    (λ t. let s : first_from a (suc n) f ≡ a = cond-true (f a) a (first_from (a + 1) n f) t in (omega arith, ap f s ∙ t))
    (λ t. let s : first_from a (suc n) f ≡ first_from (a + 1) n f = cond-false (f a) a (first_from (a + 1) n f) t in
    let ne : a ≡ i → ⊥ = λ q. both_ways (f i) (ap f (sym q) ∙ t) e in
    let r = first_from_finds f n (a + 1) i (grind (arith, ne)) (omega arith) e in
    (omega (arith, r.0), ap f s ∙ r.1))
    (cases_Bool (f a))

-- each number below n passes, or some number does
module _ (f : ℕ → Bool) where
  all_decides : (n : ℕ) → Decides (all_below n f) ((k : ℕ) → k < n → f k ≡ true)
  all_decides = Decides-below_and f (λ k. f k ≡ true) (λ n. all_below n f) (λ k. (λ e. e, λ e. e)) refl (λ _. refl)

  any_decides : (n : ℕ) → Decides (any_below n f) ((k : ℕ) × (k < n) × (f k ≡ true))
  any_decides = Decides-below_or f (λ k. f k ≡ true) (λ n. any_below n f) (λ k. (λ e. e, λ e. e)) refl (λ _. refl)

  pub all_below_at : (n : ℕ) → all_below n f ≡ true → (k : ℕ) → k < n → f k ≡ true
  all_below_at n = (all_decides n).0

  pub any_below_from : (n k : ℕ) → k < n → f k ≡ true → any_below n f ≡ true
  any_below_from n k l e = (any_decides n).1 (k, l, e)

  pub any_below_some : (n : ℕ) → any_below n f ≡ true → (k : ℕ) × (k < n) × (f k ≡ true)
  any_below_some n = (any_decides n).0

  -- no number below n passes
  pub none_below : (n : ℕ) → ((k : ℕ) → k < n → f k ≡ false) → any_below n f ≡ false
  none_below zero h = refl
  none_below (suc n) h = or_from (f n) (any_below n f) (h n (omega arith)) (none_below n (λ k l. h k (omega arith)))

  pub none_below_at : (n : ℕ) → any_below n f ≡ false → (k : ℕ) → k < n → f k ≡ false
  none_below_at n e k l = ⊎_elim (λ t. absurd (both_ways (any_below n f) e (any_below_from n k l t))) (λ t. t) (cases_Bool (f k))

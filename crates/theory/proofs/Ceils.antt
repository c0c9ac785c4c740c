-- Division rounded up, by quotient and remainder.
use Rattle.std.proofs.Common.{◌≡◌, ℕ, ◌+◌, ◌-◌, ◌*◌, ◌/◌, ◌%◌, ◌<◌, ◌≤◌, min, sym, ap, ◌∙◌, ⊎_elim, mod-lt, add-mul, one-mul, div-add-mod', mul-one, arith}
use native.Mathlib.Nat.{min-le_right, min-eq_left}
use lib.Arith.{digits_div}
use Rattle.std.proofs.lemmas.Nat.{mul-le}
use Rattle.std.proofs.lemmas.Bool.{cases_lt}
use Rattle.theory.specs.Octets.{ceil_div}

-- the quotient, and one more where something is left
pub ceil_parts : (a b : ℕ) → 0 < b → a / b + min 1 (a % b) ≡ ceil_div a b
ceil_parts a b h =
    let whole = div-add-mod' a b in
    let rest = mod-lt a {m = b} h in
    ⊎_elim
    (λ (some : 0 < a % b).
    let q = a / b in
    let one : min 1 (a % b) ≡ 1 = min-eq_left some in
    let sum : a + (b - 1) ≡ (q + 1) * b + (a % b - 1) = omega (arith, add-mul q 1 b, one-mul b) in
    ap (λ n. q + n) one ∙ sym (ap (λ n. n / b) sum ∙ digits_div (q + 1) (omega arith)))
    (λ (none : a % b ≤ 0).
    let q = a / b in
    let zero_rest : a % b ≡ 0 = omega arith in
    let sum : a + (b - 1) ≡ q * b + (b - 1) = omega arith in
    ap (λ n. q + min 1 n) zero_rest ∙ omega arith ∙ sym (ap (λ n. n / b) sum ∙ digits_div q (omega arith)))
    (cases_lt 0 (a % b))

-- it is not above the number divided
pub ceil_le : (a b : ℕ) → 0 < b → ceil_div a b ≤ a
ceil_le a b h =
    omega (arith, ceil_parts a b h, div-add-mod' a b, mul-le (a / b) 1 (a / b) b (omega arith) (omega arith), mul-one (a / b), min-le_right 1 (a % b))

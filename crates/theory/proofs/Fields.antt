-- A few bits of a number, from the few of its digits that hold them.
use Rattle.std.proofs.Common.{◌≡◌, ℕ, zero, suc, ◌+◌, ◌-◌, ◌*◌, ◌/◌, ◌%◌, ◌^◌, ◌<◌, ◌≤◌, List, [], ◌∷◌, ◌++◌, length, take, drop, sym, ap, ◌∙◌, mul_assoc, mul_comm, add-mul, one-mul, pow-suc, mul-zero, zero-add, zero-mul, mul-suc, arith, length-drop}
use native.Mathlib.Nat.{pow-zero, pow-succ', mul-add-mod_self_right}
use Rattle.std.specs.Int.Digits.{number_from_digits, number_from_digits_after, AllBelowBase}
use Rattle.std.specs.List.{between}
use Rattle.std.proofs.lemmas.Nat.{pow-add, shr-shr, field_of, shr_high}
use Rattle.std.proofs.lemmas.Int.Digits.{number_after_append, number_lt}
use Rattle.std.proofs.lemmas.List.Edits.{split_between, length-between}
use Rattle.std.proofs.ByRecursion.{All-drop}

pub pow_mul : (a k : ℕ) → (2 ^ a) ^ k ≡ 2 ^ (a * k)
pow_mul a zero = simp (pow-zero, mul-zero)
pow_mul a (suc k) = simp (pow-suc, mul-suc, pow-add, pow_mul a k)

after : (b n : ℕ) (ds : List ℕ) → number_from_digits_after b n ds ≡ n * b ^ length ds + number_from_digits b ds
after b n [] = omega (arith, ap (λ x. n * x) (pow-zero b))
after b n (d ∷ ds) =
    after b (n * b + d) ds
    ∙ omega (
      arith,
      add-mul (n * b) d (b ^ length ds),
      mul_assoc n b (b ^ length ds),
      ap (λ x. n * x) (pow-succ' b (length ds)),
      after b (0 * b + d) ds,
      ap (λ x. (x + d) * b ^ length ds) (zero-mul b),
      ap (λ x. x * b ^ length ds) (zero-add d),
    )

number_append : (b : ℕ) (xs ys : List ℕ) → number_from_digits b (xs ++ ys) ≡ number_from_digits b xs * b ^ length ys + number_from_digits b ys
number_append b xs ys = number_after_append b 0 xs ys ∙ after b (number_from_digits b xs) ys

-- what stands above bit l does not matter to bits below it
low_bits : (n l w t b : ℕ) → b + t ≤ l → (n * 2 ^ l + w) / 2 ^ t % 2 ^ b ≡ w / 2 ^ t % 2 ^ b
low_bits n l w t b h =
    let m = b + t in
    let split : n * 2 ^ l ≡ n * 2 ^ (l - m) * 2 ^ m = ap (λ x. n * 2 ^ x) (omega arith) ∙ ap (λ x. n * x) (pow-add 2 (l - m) m)
    ∙ sym (mul_assoc n (2 ^ (l - m)) (2 ^ m)) in
    let same : (n * 2 ^ l + w) % 2 ^ m ≡ w % 2 ^ m = ap (λ x. (x + w) % 2 ^ m) split ∙ mul-add-mod_self_right (n * 2 ^ (l - m)) (2 ^ m) w in
    sym (field_of (n * 2 ^ l + w) b t) ∙ ap (λ x. x / 2 ^ t) same ∙ field_of w b t

number_cut : (b : ℕ) (ds : List ℕ) (i j : ℕ) → i ≤ j
    → number_from_digits b ds ≡ (number_from_digits b (take i ds) * b ^ length (between i j ds) + number_from_digits b (between i j ds)) * b ^ length (drop j ds) + number_from_digits b (drop j ds)
number_cut b ds i j h =
    ap (number_from_digits b) (split_between ds i j h)
    ∙ number_after_append b 0 (take i ds) (between i j ds ++ drop j ds)
    ∙ number_after_append b (number_from_digits b (take i ds)) (between i j ds) (drop j ds)
    ∙ after b (number_from_digits_after b (number_from_digits b (take i ds)) (between i j ds)) (drop j ds)
    ∙ ap (λ x. x * b ^ length (drop j ds) + number_from_digits b (drop j ds)) (after b (number_from_digits b (take i ds)) (between i j ds))

pub times_rest : (a m n : ℕ) → m ≤ n → a * (n - m) + m * a ≡ n * a
times_rest a m n h = let k : n - m + m ≡ n = omega arith in omega (arith, ap (λ x. x * a) k, add-mul (n - m) m a, mul_comm a (n - m))

-- the b bits that end at bit e, counted from the first, of a list's digits of a bits: those of its part from i to j, which holds them
pub field : (a : ℕ) (ds : List ℕ) (i j e b : ℕ) → AllBelowBase (2 ^ a) ds → i ≤ j → j ≤ length ds → i * a + b ≤ e → e ≤ j * a
    → number_from_digits (2 ^ a) ds / 2 ^ (length ds * a - e) % 2 ^ b ≡ number_from_digits (2 ^ a) (between i j ds) / 2 ^ (j * a - e) % 2 ^ b
field a ds i j e b under hi hj hb he =
    let r = length ds - j in
    let n = number_from_digits (2 ^ a) (take i ds) in
    let w = number_from_digits (2 ^ a) (between i j ds) in
    let z = number_from_digits (2 ^ a) (drop j ds) in
    let rest : (2 ^ a) ^ length (drop j ds) ≡ 2 ^ (a * r) = ap (λ x. (2 ^ a) ^ x) (length-drop j ds) ∙ pow_mul a r in
    let part : (2 ^ a) ^ length (between i j ds) ≡ 2 ^ (a * (j - i)) = ap (λ x. (2 ^ a) ^ x) (length-between ds i j hj) ∙ pow_mul a (j - i) in
    let small : z < 2 ^ (a * r) = rw rest at (number_lt (2 ^ a) (drop j ds) (All-drop (λ d. d < 2 ^ a) j ds under)) in
    let whole : number_from_digits (2 ^ a) ds ≡ (n * 2 ^ (a * (j - i)) + w) * 2 ^ (a * r) + z = rw (rest, part) at (number_cut (2 ^ a) ds i j hi) in
    let exponent : length ds * a - e ≡ a * r + (j * a - e) = omega (arith, times_rest a j (length ds) hj) in
    let room : b + (j * a - e) ≤ a * (j - i) = omega (arith, times_rest a i j hi) in
    ap (λ x. x / 2 ^ (length ds * a - e) % 2 ^ b) whole
    ∙ ap (λ x. ((n * 2 ^ (a * (j - i)) + w) * 2 ^ (a * r) + z) / 2 ^ x % 2 ^ b) exponent
    ∙ ap (λ x. x % 2 ^ b) (sym (shr-shr ((n * 2 ^ (a * (j - i)) + w) * 2 ^ (a * r) + z) (a * r) (j * a - e)))
    ∙ ap (λ x. x / 2 ^ (j * a - e) % 2 ^ b) (shr_high (n * 2 ^ (a * (j - i)) + w) (a * r) z small)
    ∙ low_bits n (a * (j - i)) w (j * a - e) b room

-- of p digits, those after the digit at k, and those up to it
pub after_digit : (p d k : ℕ) → k < p → (p - 1 - k) * d + (k * d + d) ≡ p * d
after_digit p d k h =
    let e : p - 1 - k + (k + 1) ≡ p = omega arith in
    omega (arith, ap (λ x. x * d) e, add-mul (p - 1 - k) (k + 1) d, add-mul k 1 d, one-mul d)

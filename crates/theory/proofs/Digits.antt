-- A number as digits of some bits each, and back.
use Rattle.std.proofs.Common.{◌≡◌, ℕ, zero, suc, ◌+◌, ◌-◌, ◌*◌, ◌/◌, ◌%◌, ◌^◌, ◌<◌, List, [], ◌∷◌, ◌++◌, map, length, get_or, sym, ap, ◌∙◌, subst, mod-lt, mod-eq_of_lt, mul_comm, add-mul, one-mul, zero-mul, div-one, add-one, arith}
use native.Mathlib.Nat.{mod-one}
use lib.Arith.{mod-mul}
use Rattle.std.specs.List.{range_with_len, between}
use Rattle.std.specs.Int.Digits.{number_from_digits, AllBelowBase}
use Rattle.std.proofs.lemmas.Nat.{pow_pos, pow-add, shr-shr}
use Rattle.std.proofs.lemmas.List.FromFn.{fill_by_all, length-map-range_with_len, get_or-map-range_with_len, map-range_with_len_more}
use Rattle.std.proofs.lemmas.Int.Digits.{number_push, number_lt}
use Rattle.std.proofs.lemmas.List.Edits.{between_more, between_none}
use Rattle.std.proofs.ByRecursion.{All-get_or, All-from_get_or}
use Rattle.theory.specs.Octets.{digit, digits}
use Rattle.theory.proofs.Fields.{field, pow_mul, after_digit}

pub length_digits : (a n x : ℕ) → length (digits a n x) ≡ n
length_digits a n x = length-map-range_with_len (digit a n x) 0 n

pub digits_at : (a n x k : ℕ) → k < n → get_or (digits a n x) k 0 ≡ digit a n x k
digits_at a n x k h = get_or-map-range_with_len (digit a n x) 0 n k k 0 h (omega arith)

pub digits_under : (a n x : ℕ) → AllBelowBase (2 ^ a) (digits a n x)
digits_under a n x =
    All-from_get_or (λ d. d < 2 ^ a) (digits a n x) 0
    (λ k h. rw (digits_at a n x k (omega (arith, length_digits a n x))) (mod-lt _ (pow_pos a)))

-- the last digit, and those before it
digits_push : (a n x : ℕ) → digits a (n + 1) x ≡ digits a n (x / 2 ^ a) ++ (x % 2 ^ a ∷ [])
digits_push a n x =
    let f : ℕ → ℕ = digit a (n + 1) x in
    let g : ℕ → ℕ = digit a n (x / 2 ^ a) in
    let deeper : (i : ℕ) → i < n → (n + 1 - 1 - i) * a ≡ a + (n - 1 - i) * a = λ i h.
    let e : n + 1 - 1 - i ≡ 1 + (n - 1 - i) = omega arith in
    ap (λ m. m * a) e ∙ add-mul 1 (n - 1 - i) a ∙ ap (λ m. m + (n - 1 - i) * a) (one-mul a) in
    let front : map f (range_with_len 0 n) ≡ map g (range_with_len 0 n) = fill_by_all g (map f (range_with_len 0 n)) n 0 (length-map-range_with_len f 0 n)
    (λ i h. get_or-map-range_with_len f 0 n i i 0 h (omega arith) ∙ ap (λ m. x / 2 ^ m % 2 ^ a) (deeper i h)
    ∙ ap (λ m. m % 2 ^ a) (sym (shr-shr x a ((n - 1 - i) * a)))) in
    let none : (n + 1 - 1 - n) * a ≡ 0 = let z : n + 1 - 1 - n ≡ 0 = omega arith in ap (λ m. m * a) z ∙ zero-mul a in
    let last : f n ≡ x % 2 ^ a = ap (λ m. x / 2 ^ m % 2 ^ a) none ∙ ap (λ m. m % 2 ^ a) (div-one x) in
    map-range_with_len_more f 0 n n (omega arith) ∙ ap (λ ys. ys ++ (f n ∷ [])) front ∙ ap (λ y. map g (range_with_len 0 n) ++ (y ∷ [])) last

-- n digits of a bits hold a number up to 2 ^ (n * a)
pub number_of_digits : (a n x : ℕ) → number_from_digits (2 ^ a) (digits a n x) ≡ x % 2 ^ (n * a)
number_of_digits a zero x = sym (ap (λ m. x % 2 ^ m) (zero-mul a) ∙ mod-one x)
number_of_digits a (suc n) x =
    let more : 2 ^ (n * a) * 2 ^ a ≡ 2 ^ (suc n * a) = sym (pow-add 2 (n * a) a)
    ∙ ap (λ m. 2 ^ m) (sym (ap (λ m. m * a) (sym (add-one n)) ∙ add-mul n 1 a ∙ ap (λ m. n * a + m) (one-mul a))) in
    ap (λ m. number_from_digits (2 ^ a) (digits a m x)) (sym (add-one n))
    ∙ ap (number_from_digits (2 ^ a)) (digits_push a n x)
    ∙ number_push (2 ^ a) (digits a n (x / 2 ^ a)) (x % 2 ^ a)
    ∙ ap (λ y. y * 2 ^ a + x % 2 ^ a) (number_of_digits a n (x / 2 ^ a))
    ∙ sym (mod-mul x {m = 2 ^ (n * a)} {c = 2 ^ a} (pow_pos (n * a)) (pow_pos a))
    ∙ ap (λ y. x % y) more

-- the digit at k of the number that digits write
digit_at : (a : ℕ) (ds : List ℕ) (k : ℕ) → AllBelowBase (2 ^ a) ds → k < length ds
    → number_from_digits (2 ^ a) ds / 2 ^ (length ds * a - (k * a + a)) % 2 ^ a ≡ get_or ds k 0
digit_at a ds k under h =
    let x = get_or ds k 0 in
    let ends : (k + 1) * a ≡ k * a + a = add-mul k 1 a ∙ ap (λ y. k * a + y) (one-mul a) in
    let none : (k + 1) * a - (k * a + a) ≡ 0 = omega arith in
    let one : between k (k + 1) ds ≡ x ∷ [] = between_more ds k k 0 (omega arith) h ∙ ap (λ ys. ys ++ (x ∷ [])) (between_none ds k) in
    let value : number_from_digits (2 ^ a) (x ∷ []) ≡ x = omega (arith, zero-mul (2 ^ a)) in
    field a ds k (k + 1) (k * a + a) a under (omega arith) (omega arith) (omega arith) (omega arith)
    ∙ ap (λ m. number_from_digits (2 ^ a) (between k (k + 1) ds) / 2 ^ m % 2 ^ a) none
    ∙ ap (λ ys. number_from_digits (2 ^ a) ys / 2 ^ 0 % 2 ^ a) one
    ∙ ap (λ y. y / 2 ^ 0 % 2 ^ a) value
    ∙ ap (λ y. y % 2 ^ a) (div-one x)
    ∙ mod-eq_of_lt (All-get_or (λ d. d < 2 ^ a) ds k 0 h under)

pub digits_of_number : (a n : ℕ) (ds : List ℕ) → length ds ≡ n → AllBelowBase (2 ^ a) ds → digits a n (number_from_digits (2 ^ a) ds) ≡ ds
digits_of_number a n ds whole under = sym (fill_by_all (digit a n (number_from_digits (2 ^ a) ds)) ds n 0 whole (λ k h.
    let e : (n - 1 - k) * a ≡ length ds * a - (k * a + a) = omega (arith, after_digit n a k h, ap (λ m. m * a) whole) in
    sym (ap (λ m. number_from_digits (2 ^ a) ds / 2 ^ m % 2 ^ a) e ∙ digit_at a ds k under (omega arith))))

-- p digits of b bits, written as n digits of a bits, are there again
pub there_and_back : (a b n p : ℕ) (ds : List ℕ) → n * a ≡ p * b → length ds ≡ p → AllBelowBase (2 ^ b) ds
    → digits b p (number_from_digits (2 ^ a) (digits a n (number_from_digits (2 ^ b) ds))) ≡ ds
there_and_back a b n p ds bits whole under =
    let x = number_from_digits (2 ^ b) ds in
    let size : (2 ^ b) ^ length ds ≡ 2 ^ (n * a) = pow_mul b (length ds)
    ∙ ap (λ m. 2 ^ m) (mul_comm b (length ds) ∙ ap (λ m. m * b) whole ∙ sym bits) in
    let fits : x < 2 ^ (n * a) = subst (λ y. x < y) size (number_lt (2 ^ b) ds under) in
    ap (digits b p) (number_of_digits a n x ∙ mod-eq_of_lt fits) ∙ digits_of_number b p ds whole under

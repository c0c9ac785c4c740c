-- A run of bits inside a group's octets is the sample that taking the group apart gives.
use Rattle.std.proofs.Common.{◌≡◌, ℕ, zero, suc, ◌+◌, ◌-◌, ◌*◌, ◌/◌, ◌%◌, ◌^◌, ◌<◌, ◌≤◌, List, [], ◌∷◌, ◌++◌, length, get_or, take, drop, sym, refl, ap, ◌∙◌, ap₂, mul_assoc, zero-mul, arith, length-drop, length-take-le, get_or-drop, get_or-take}
use native.Mathlib.Nat.{mod-one}
use Rattle.std.specs.Int.Digits.{number_from_digits, AllBelowBase}
use Rattle.std.specs.List.{between}
use Rattle.std.proofs.lemmas.Nat.{shr-shr, mod-pow-add}
use Rattle.std.proofs.lemmas.List.Edits.{between_more, between_none}
use Rattle.std.proofs.ByRecursion.{All-from_get_or, All-take, All-drop}
use Rattle.theory.specs.Octets.{AllOctets, digit}
use Rattle.theory.proofs.Fields.{field, after_digit}
use Rattle.packed.specs.BitRuns.{bit_at, run_at}

-- two runs with the same bits
pub same_run : (m l : List ℕ) (a b n : ℕ) → ((j : ℕ) → j < n → bit_at l (b + j) ≡ bit_at m (a + j)) → run_at l b n ≡ run_at m a n
same_run m l a b zero h = refl
same_run m l a b (suc n) h = ap₂ (λ x y. 2 * x + y) (same_run m l a b n (λ j k. h j (omega arith))) (h n (omega arith))

-- bit u of octets, from the number that they write
pub octets_bit : (ds : List ℕ) (u : ℕ) → AllBelowBase 256 ds → u < length ds * 8 → bit_at ds u ≡ number_from_digits 256 ds / 2 ^ (length ds * 8 - (u + 1)) % 2
octets_bit ds u under h =
    let q = u / 8 in
    let x = get_or ds q 0 in
    let one : between q (q + 1) ds ≡ x ∷ [] = between_more ds q q 0 (omega arith) (omega arith) ∙ ap (λ ys. ys ++ (x ∷ [])) (between_none ds q) in
    let value : number_from_digits 256 (x ∷ []) ≡ x = omega (arith, zero-mul 256) in
    let behind : (q + 1) * 8 - (u + 1) ≡ 7 - u % 8 = omega arith in
    sym (field 8 ds q (q + 1) (u + 1) 1 under (omega arith) (omega arith) (omega arith) (omega arith)
    ∙ ap (λ z. number_from_digits 256 (between q (q + 1) ds) / 2 ^ z % 2) behind
    ∙ ap (λ ys. number_from_digits 256 ys / 2 ^ (7 - u % 8) % 2) one
    ∙ ap (λ y. y / 2 ^ (7 - u % 8) % 2) value)

-- n bits from bit s on
pub octets_run : (ds : List ℕ) (s n : ℕ) → AllBelowBase 256 ds → s + n ≤ length ds * 8
    → run_at ds s n ≡ number_from_digits 256 ds / 2 ^ (length ds * 8 - (s + n)) % 2 ^ n
octets_run ds s zero under h = sym (mod-one (number_from_digits 256 ds / 2 ^ (length ds * 8 - (s + 0))))
octets_run ds s (suc n) under h =
    let w = number_from_digits 256 ds in
    let e = length ds * 8 - (s + n + 1) in
    let x = w / 2 ^ e in
    let f : length ds * 8 - (s + n) ≡ e + 1 = omega arith in
    let g : length ds * 8 - (s + suc n) ≡ e = omega arith in
    let front : run_at ds s n ≡ x / 2 ^ 1 % 2 ^ n = octets_run ds s n under (omega arith) ∙ ap (λ z. w / 2 ^ z % 2 ^ n) f
    ∙ ap (λ z. z % 2 ^ n) (sym (shr-shr w e 1)) in
    let last : bit_at ds (s + n) ≡ x % 2 = octets_bit ds (s + n) under (omega arith) in
    let step : x % 2 ^ (n + 1) ≡ x / 2 ^ 1 % 2 ^ n * 2 ^ 1 + x % 2 ^ 1 = mod-pow-add x n 1 in
    let p : n + 1 ≡ suc n = omega arith in
    omega (arith, front, last, step, ap (λ z. x % 2 ^ z) p, ap (λ z. w / 2 ^ z % 2 ^ suc n) g)

-- position k of group i, of groups of o octets and n samples of d bits
pub group_sample : (m : List ℕ) (i o k n d : ℕ) → o * 8 ≡ n * d → k < n → i * o + o ≤ length m → AllOctets m
    → run_at m (i * (o * 8) + k * d) d ≡ digit d n (number_from_digits 256 (take o (drop (i * o) m))) k
group_sample m i o k n d bits hk room octets =
    let ds = take o (drop (i * o) m) in
    let size : length ds ≡ o = length-take-le o (drop (i * o) m) (omega (arith, length-drop (i * o) m)) in
    let under : AllBelowBase 256 ds = All-take (λ x. x < 256) o (drop (i * o) m) (All-drop (λ x. x < 256) (i * o) m (All-from_get_or (λ x. x < 256) m 0 octets)) in
    let ends : (n - 1 - k) * d + (k * d + d) ≡ n * d = after_digit n d k hk in
    let same : (j : ℕ) → j < d → bit_at m (i * (o * 8) + k * d + j) ≡ bit_at ds (k * d + j) = λ j h.
    let u = k * d + j in
    let a : (i * (o * 8) + k * d + j) / 8 ≡ i * o + u / 8 = omega (arith, mul_assoc i o 8) in
    let b : (i * (o * 8) + k * d + j) % 8 ≡ u % 8 = omega (arith, mul_assoc i o 8) in
    ap₂ (λ y z. get_or m y 0 / 2 ^ (7 - z) % 2) a b
    ∙ ap (λ y. y / 2 ^ (7 - u % 8) % 2) (sym (get_or-take o (drop (i * o) m) (u / 8) 0 (omega arith) ∙ get_or-drop (i * o) m (u / 8) 0)) in
    let behind : length ds * 8 - (k * d + d) ≡ (n - 1 - k) * d = omega arith in
    same_run ds m (k * d) (i * (o * 8) + k * d) d same
    ∙ octets_run ds (k * d) d under (omega arith)
    ∙ ap (λ z. number_from_digits 256 ds / 2 ^ z % 2 ^ d) behind

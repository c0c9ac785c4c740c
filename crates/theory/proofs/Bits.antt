-- Bits of an octet and of a map.
use Rattle.std.proofs.Common.{◌≡◌, ℕ, zero, suc, ◌+◌, ◌-◌, ◌*◌, ◌/◌, ◌%◌, ◌^◌, ◌<◌, Bool, true, false, cond, eqb, ◌⊎◌, List, map, length, get_or, sym, refl, ap, ◌∙◌, ap₂, inl, inr, mod-eq_of_lt, one-mul, zero-mul, arith, lit<, pow_pos, pow-add}
use native.Mathlib.Nat.{add-mul-div_left, two-pow-succ, mod-one}
use Rattle.std.specs.List.{range_with_len}
use Rattle.std.proofs.lemmas.Nat.{shr_high, mod-pow-add}
use Rattle.std.proofs.lemmas.Bool.{cases_order, cases_lt, eq-eqb, ne_eqb}
use Rattle.std.proofs.lemmas.List.FromFn.{get_or-map-range_with_len, length-map-range_with_len, fill_by_all}
use Rattle.theory.specs.Octets.{AllOctets, bit, number_of_bits, map_of_bits}

pub octet_lt : (f : ℕ → Bool) (n : ℕ) → number_of_bits f n < 2 ^ n
octet_lt f zero = lit< tt
octet_lt f (suc n) = go (f n) (octet_lt f n)
  where
    go : (b : Bool) → number_of_bits f n < 2 ^ n → number_of_bits f n + cond b (2 ^ n) 0 < 2 ^ suc n
    go true h = omega (arith, two-pow-succ n)
    go false h = omega (arith, two-pow-succ n)

-- the highest bit, and the ones below it
pub top_bit : (b : Bool) (lo n : ℕ) → lo < 2 ^ n → ((lo + cond b (2 ^ n) 0) / 2 ^ n) % 2 ≡ cond b 1 0
top_bit true lo n h = let e : lo + 2 ^ n ≡ 1 * 2 ^ n + lo = omega arith in rw (e, shr_high 1 n lo h)
top_bit false lo n h = let e : lo + 0 ≡ 0 * 2 ^ n + lo = omega arith in rw (e, shr_high 0 n lo h)

pub low_bit : (b : Bool) (lo n j : ℕ) → j < n → ((lo + cond b (2 ^ n) 0) / 2 ^ j) % 2 ≡ (lo / 2 ^ j) % 2
low_bit true lo n j h =
    let k : j + suc (n - suc j) ≡ n = omega arith in
    let e : 2 ^ n ≡ 2 ^ j * 2 ^ suc (n - suc j) = ap (λ x. 2 ^ x) (sym k) ∙ pow-add 2 j (suc (n - suc j)) in
    let d : (lo + 2 ^ j * 2 ^ suc (n - suc j)) / 2 ^ j ≡ lo / 2 ^ j + 2 ^ suc (n - suc j) = add-mul-div_left lo (2 ^ suc (n - suc j)) (pow_pos j) in
    rw (e, d) (omega (arith, two-pow-succ (n - suc j)))
low_bit false lo n j h = let e : lo + 0 ≡ lo = omega arith in rw e

pub octet_bit : (f : ℕ → Bool) (n j : ℕ) → j < n → (number_of_bits f n / 2 ^ j) % 2 ≡ cond (f j) 1 0
octet_bit f zero j h = absurd (omega arith)
octet_bit f (suc n) j h = go (cases_order j n) (octet_bit f n j)
  where
    go : (j ≡ n) ⊎ ((j < n) ⊎ (n < j)) → (j < n → (number_of_bits f n / 2 ^ j) % 2 ≡ cond (f j) 1 0)
        → (number_of_bits f (suc n) / 2 ^ j) % 2 ≡ cond (f j) 1 0
    go (inl e) ih = rw e (top_bit (f n) (number_of_bits f n) n (octet_lt f n))
    go (inr (inl l)) ih = low_bit (f n) (number_of_bits f n) n j l ∙ ih l
    go (inr (inr g)) ih = absurd (omega arith)

eqb_cond : (b : Bool) → eqb (cond b 1 0) 1 ≡ b
eqb_cond true = refl
eqb_cond false = refl

-- a map whose octets are made of the bits f has the bits f
pub bit_made : (f : ℕ → Bool) (n k : ℕ) → k < 8 * n → bit (map_of_bits f n) k ≡ f k
bit_made f n k h =
    let i : k / 8 < n = omega arith in
    let e : 8 * (k / 8) + k % 8 ≡ k = omega arith in
    let g : get_or (map (λ i. number_of_bits (λ j. f (8 * i + j)) 8) (range_with_len 0 n)) (k / 8) 0 ≡ number_of_bits (λ j. f (8 * (k / 8) + j)) 8
    = get_or-map-range_with_len (λ i. number_of_bits (λ j. f (8 * i + j)) 8) 0 n (k / 8) (k / 8) 0 i (omega arith) in
    ap (λ x. eqb ((x / 2 ^ (k % 8)) % 2) 1) g
    ∙ ap (λ x. eqb x 1) (octet_bit (λ j. f (8 * (k / 8) + j)) 8 (k % 8) (omega arith))
    ∙ eqb_cond (f (8 * (k / 8) + k % 8))
    ∙ ap f e

octet_same : (f g : ℕ → Bool) (n : ℕ) → ((j : ℕ) → j < n → f j ≡ g j) → number_of_bits f n ≡ number_of_bits g n
octet_same f g zero h = refl
octet_same f g (suc n) h = ap₂ (λ x y. x + y) (octet_same f g n (λ j l. h j (omega arith))) (ap (λ b. cond b (2 ^ n) 0) (h n (omega arith)))

pub bits_same : (f g : ℕ → Bool) (n : ℕ) → ((k : ℕ) → k < 8 * n → f k ≡ g k) → map_of_bits f n ≡ map_of_bits g n
bits_same f g n h =
    fill_by_all (λ i. number_of_bits (λ j. g (8 * i + j)) 8) (map_of_bits f n) n 0
    (length-map-range_with_len (λ i. number_of_bits (λ j. f (8 * i + j)) 8) 0 n)
    (λ k l. get_or-map-range_with_len (λ i. number_of_bits (λ j. f (8 * i + j)) 8) 0 n k k 0 l (omega arith)
    ∙ octet_same (λ j. f (8 * k + j)) (λ j. g (8 * k + j)) 8 (λ j b. h (8 * k + j) (omega arith)))

-- one bit's worth
worth : (y n : ℕ) → y < 2 → cond (eqb y 1) n 0 ≡ y * n
worth y n h = elim (cases_lt y 1) [
  | inl k ↦ let z : y ≡ 0 = omega arith in ap (λ b. cond b n 0) (ne_eqb y 1 (λ e. omega arith)) ∙ sym (ap (λ x. x * n) z ∙ zero-mul n)
  | inr k ↦ let z : y ≡ 1 = omega arith in ap (λ b. cond b n 0) (eq-eqb y 1 z) ∙ sym (ap (λ x. x * n) z ∙ one-mul n)
]

-- a number's own low bits
octet_whole : (x n : ℕ) → number_of_bits (λ j. eqb ((x / 2 ^ j) % 2) 1) n ≡ x % 2 ^ n
octet_whole x zero = sym (mod-one x)
octet_whole x (suc n) =
    let e : 1 + n ≡ suc n = omega arith in
    omega (arith, octet_whole x n, worth ((x / 2 ^ n) % 2) (2 ^ n) (omega arith), mod-pow-add x 1 n, ap (λ k. x % 2 ^ k) e)

-- a number of n bits is made of them
pub octet_is : (n x : ℕ) (f : ℕ → Bool) → x < 2 ^ n → ((j : ℕ) → j < n → eqb ((x / 2 ^ j) % 2) 1 ≡ f j) → x ≡ number_of_bits f n
octet_is n x f h e = sym (mod-eq_of_lt h) ∙ sym (octet_whole x n) ∙ octet_same (λ j. eqb ((x / 2 ^ j) % 2) 1) f n e

-- bit j of octet i
pub bit_at : (m : List ℕ) (i j : ℕ) → j < 8 → eqb ((get_or m i 0 / 2 ^ j) % 2) 1 ≡ bit m (8 * i + j)
bit_at m i j h =
    let q : (8 * i + j) / 8 ≡ i = omega arith in
    let r : (8 * i + j) % 8 ≡ j = omega arith in
    sym (ap₂ (λ a b. eqb ((get_or m a 0 / 2 ^ b) % 2) 1) q r)

-- a map of octets is made of its bits
pub bits_whole : (m : List ℕ) → AllOctets m → map_of_bits (bit m) (length m) ≡ m
bits_whole m h =
    sym (fill_by_all (λ i. number_of_bits (λ j. bit m (8 * i + j)) 8) m (length m) 0 refl
    (λ k l. octet_is 8 (get_or m k 0) (λ j. bit m (8 * k + j)) (h k l) (bit_at m k)))

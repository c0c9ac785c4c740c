-- Counts below a number, and the clear bits of octets.
use Rattle.std.proofs.Common.{◌≡◌, ℕ, zero, suc, ◌+◌, ◌*◌, ◌/◌, ◌%◌, ◌^◌, ◌<◌, ◌≤◌, Bool, true, false, cond, not, eqb, List, length, get_or, take, sym, refl, ap, ◌∙◌, ap₂, inl, inr, arith}
use lib.Bits.{bit_or}
use lib.Count.{ones}
use Rattle.std.specs.Int.{count_zeros, w8, w16}
use Rattle.std.specs.List.{sum_by}
use Rattle.std.proofs.lemmas.Bool.{cases_order, ne_eqb, eq-eqb, eqb-true}
use Rattle.std.proofs.lemmas.List.Sums.{sum_by_more}
use Rattle.theory.specs.Octets.{AllOctets, bit, count_below, all_below}
use Rattle.theory.proofs.Bits.{bit_at}
use Rattle.theory.proofs.Named.{count_same, count_none}
use Rattle.theory.proofs.Searches.{all_below_at}

-- what passes in one of two ways
pub count_join : (n : ℕ) (f g e : ℕ → Bool) → ((k : ℕ) → k < n → cond (e k) 1 0 ≡ cond (f k) 1 0 + cond (g k) 1 0)
    → count_below n e ≡ count_below n f + count_below n g
count_join zero f g e h = refl
count_join (suc n) f g e h = omega (arith, count_join n f g e (λ k l. h k (omega arith)), h n (omega arith))

pub count_one : (n g : ℕ) → g < n → count_below n (λ k. eqb k g) ≡ 1
count_one zero g h = absurd (omega arith)
count_one (suc n) g h = elim (cases_order g n) [
  | inl e ↦ ap₂ (λ a b. a + cond b 1 0) (count_none n (λ k. eqb k g) (λ k l. ne_eqb k g (λ z. omega arith))) (eq-eqb n g (sym e))
  | inr (inl l) ↦ ap₂ (λ a b. a + cond b 1 0) (count_one n g l) (ne_eqb n g (λ z. omega arith))
  | inr (inr l) ↦ absurd (omega arith)
]

-- those of the first a, and those of the next n
pub count_more : (f : ℕ → Bool) (a n : ℕ) → count_below (a + n) f ≡ count_below a f + count_below n (λ j. f (a + j))
count_more f a zero = let e : a + 0 ≡ a = omega arith in ap (λ x. count_below x f) e ∙ omega arith
count_more f a (suc n) =
    let e : a + suc n ≡ suc (a + n) = omega arith in
    ap (λ x. count_below x f) e ∙ omega (arith, count_more f a n)

pub count_le : (f : ℕ → Bool) (n : ℕ) → count_below n f ≤ n
count_le f zero = omega arith
count_le f (suc n) = omega (arith, count_le f n, one (f n))
  where
    one : (b : Bool) → cond b 1 0 ≤ 1
    one true = omega arith
    one false = omega arith

-- the clear ones of an octet's bits below b: what the code counts, tested for every octet and every b
abbrev clear_below : ℕ → ℕ → ℕ
clear_below x b = count_below b (λ j. not (eqb ((x / 2 ^ j) % 2) 1))

pub clear_low : (x b : ℕ) → x < 256 → b ≤ 8 → count_zeros w16 (bit_or x ((65535 * 2 ^ b) % 65536)) ≡ clear_below x b
unfolding ones
clear_low x b h k =
    let test : ℕ → ℕ → Bool = λ y c. eqb (count_zeros w16 (bit_or y ((65535 * 2 ^ c) % 65536))) (clear_below y c) in
    eqb-true _ _ (all_below_at (test x) 9 (all_below_at (λ y. all_below 9 (test y)) 256 refl x h) b (omega arith))

pub clear_octet : (x : ℕ) → x < 256 → count_zeros w8 x ≡ clear_below x 8
unfolding ones
clear_octet x h = eqb-true _ _ (all_below_at (λ y. eqb (count_zeros w8 y) (clear_below y 8)) 256 refl x h)

-- the clear bits of the first n octets and of the b bits behind them
module _ (m : List ℕ) (octets : AllOctets m) where
  behind : (n b : ℕ) → b ≤ 8 → clear_below (get_or m n 0) b ≡ count_below b (λ j. not (bit m (8 * n + j)))
  behind n b h =
      count_same b (λ j. not (eqb ((get_or m n 0 / 2 ^ j) % 2) 1)) (λ j. not (bit m (8 * n + j))) (λ j l. ap not (bit_at m n j (omega arith)))

  pub clear_octets : (n : ℕ) → n ≤ length m → sum_by (count_zeros w8) (take n m) ≡ count_below (8 * n) (λ k. not (bit m k))
  clear_octets zero h = refl
  clear_octets (suc n) h =
      let o : suc n ≡ n + 1 = omega arith in
      let e : 8 * n + 8 ≡ 8 * suc n = omega arith in
      ap (λ x. sum_by (count_zeros w8) (take x m)) o
      ∙ sum_by_more (count_zeros w8) m n 0 (omega arith)
      ∙ ap₂ (λ a b. a + b) (clear_octets n (omega arith)) (clear_octet (get_or m n 0) (octets n (omega arith)) ∙ behind n 8 (omega arith))
      ∙ sym (count_more (λ k. not (bit m k)) (8 * n) 8)
      ∙ ap (λ x. count_below x (λ k. not (bit m k))) e

  pub clear_bits : (bits x a b : ℕ) → bits / 8 ≤ length m → x ≡ get_or m (bits / 8) 0 → a ≡ sum_by (count_zeros w8) (take (bits / 8) m)
      → b ≡ clear_below x (bits % 8) → a + b ≡ count_below bits (λ k. not (bit m k))
  clear_bits bits x a b h ex ea eb =
      let e : 8 * (bits / 8) + bits % 8 ≡ bits = omega arith in
      ap₂ (λ y z. y + z) (ea ∙ clear_octets (bits / 8) h) (eb ∙ ap (λ y. clear_below y (bits % 8)) ex ∙ behind (bits / 8) (bits % 8) (omega arith))
      ∙ sym (count_more (λ k. not (bit m k)) (8 * (bits / 8)) (bits % 8))
      ∙ ap (λ y. count_below y (λ k. not (bit m k))) e

-- Marking a map: nothing, one bit, one marking after another; and what its bits are then.
use Rattle.std.proofs.Common.{◌≡◌, ℕ, zero, suc, ◌+◌, ◌*◌, ◌/◌, ◌%◌, ◌^◌, ◌<◌, Bool, true, false, ◌||◌, eqb, List, map, length, get_or, set, sym, refl, ap, ◌∙◌, ap₂, inl, inr, zero-add, arith, length-set, get_or-set_other, get_or-set_same}
use native.Mathlib.Nat.{div-eq_of_lt}
use lib.Bits.{bit_or}
use Rattle.std.specs.List.{range_with_len}
use Rattle.std.proofs.lemmas.Nat.{pow_pos, or_shr, or_mod, or_lt, pow_below, one_shl}
use Rattle.std.proofs.lemmas.Bool.{cases_order, cases_eq, ne_eqb, eq-eqb}
use Rattle.std.proofs.lemmas.List.FromFn.{length-map-range_with_len, fill_by_all}
use Rattle.theory.specs.Octets.{bit, number_of_bits, marked}
use Rattle.theory.proofs.Bits.{bit_made, bits_same, top_bit, low_bit, octet_is, bit_at}
use Rattle.theory.proofs.Tests.{or_false, or_assoc}

-- the bits of a power of two
pow_bit : (a j : ℕ) → eqb ((2 ^ a / 2 ^ j) % 2) 1 ≡ eqb j a
pow_bit a j = elim (cases_order j a) [
  | inl e ↦ ap (λ i. eqb ((2 ^ a / 2 ^ i) % 2) 1) e ∙ ap (λ y. eqb ((y / 2 ^ a) % 2) 1) (sym (zero-add (2 ^ a)))
      ∙ ap (λ y. eqb y 1) (top_bit true 0 a (pow_pos a)) ∙ sym (eq-eqb j a e)
  | inr (inl l) ↦ ap (λ y. eqb ((y / 2 ^ j) % 2) 1) (sym (zero-add (2 ^ a))) ∙ ap (λ y. eqb y 1) (low_bit true 0 a j l)
      ∙ ap (λ y. eqb (y % 2) 1) (div-eq_of_lt (pow_pos j)) ∙ sym (ne_eqb j a (λ e. omega arith))
  | inr (inr l) ↦ ap (λ y. eqb (y % 2) 1) (div-eq_of_lt (pow_below a j l)) ∙ sym (ne_eqb j a (λ e. omega arith))
]

or_bit : (a b : ℕ) → a < 2 → b < 2 → eqb (bit_or a b) 1 ≡ (eqb a 1 || eqb b 1)
or_bit zero zero h k = refl
or_bit zero (suc zero) h k = refl
or_bit zero (suc (suc b)) h k = absurd (omega arith)
or_bit (suc zero) zero h k = refl
or_bit (suc zero) (suc zero) h k = refl
or_bit (suc zero) (suc (suc b)) h k = absurd (omega arith)
or_bit (suc (suc a)) b h k = absurd (omega arith)

with_bit : (x a j : ℕ) → eqb ((bit_or x (2 ^ a) / 2 ^ j) % 2) 1 ≡ (eqb ((x / 2 ^ j) % 2) 1 || eqb j a)
with_bit x a j =
    ap (λ y. eqb (y % 2) 1) (or_shr x (2 ^ a) j)
    ∙ ap (λ y. eqb y 1) (or_mod (x / 2 ^ j) (2 ^ a / 2 ^ j) 1)
    ∙ or_bit ((x / 2 ^ j) % 2) ((2 ^ a / 2 ^ j) % 2) (omega arith) (omega arith)
    ∙ ap (λ b. eqb ((x / 2 ^ j) % 2) 1 || b) (pow_bit a j)

-- an octet with no bit marked, and with one
octet_kept : (m : List ℕ) (w : ℕ → Bool) (i : ℕ) → get_or m i 0 < 256 → ((j : ℕ) → j < 8 → w (8 * i + j) ≡ false)
    → get_or m i 0 ≡ number_of_bits (λ j. bit m (8 * i + j) || w (8 * i + j)) 8
octet_kept m w i small none =
    octet_is 8 (get_or m i 0) (λ j. bit m (8 * i + j) || w (8 * i + j)) small
    (λ j h. bit_at m i j h ∙ sym (or_false (bit m (8 * i + j))) ∙ ap (λ b. bit m (8 * i + j) || b) (sym (none j h)))

octet_more : (m : List ℕ) (n : ℕ) → get_or m (n / 8) 0 < 256
    → bit_or (get_or m (n / 8) 0) (2 ^ (n % 8)) ≡ number_of_bits (λ j. bit m (8 * (n / 8) + j) || eqb (8 * (n / 8) + j) n) 8
octet_more m n small =
    let i = n / 8 in
    octet_is 8 (bit_or (get_or m i 0) (2 ^ (n % 8))) (λ j. bit m (8 * i + j) || eqb (8 * i + j) n)
    (or_lt 8 (get_or m i 0) (2 ^ (n % 8)) small (pow_below (n % 8) 8 (omega arith)))
    (λ j h. with_bit (get_or m i 0) (n % 8) j ∙ ap₂ (λ a b. a || b) (bit_at m i j h) (same j h))
  where
    same : (j : ℕ) → j < 8 → eqb j (n % 8) ≡ eqb (8 * (n / 8) + j) n
    same j h = elim (cases_eq j (n % 8)) [
      | inl e ↦ eq-eqb j (n % 8) e ∙ sym (eq-eqb (8 * (n / 8) + j) n (omega arith))
      | inr e ↦ ne_eqb j (n % 8) e ∙ sym (ne_eqb (8 * (n / 8) + j) n (λ z. e (omega arith)))
    ]

pub marked_none : (m : List ℕ) (w : ℕ → Bool) → ((i : ℕ) → get_or m i 0 < 256) → ((k : ℕ) → w k ≡ false) → m ≡ marked m w
marked_none m w small none =
    fill_by_all (λ i. number_of_bits (λ j. bit m (8 * i + j) || w (8 * i + j)) 8) m (length m) 0 refl
    (λ i h. octet_kept m w i (small i) (λ j _. none (8 * i + j)))

pub marked_one : (m : List ℕ) (n : ℕ) → n < 8 * length m → ((i : ℕ) → get_or m i 0 < 256)
    → set m (n / 8) (bit_or (get_or m (n / 8) 0) ((1 * 2 ^ (n % 8)) % 256)) ≡ marked m (λ k. eqb k n)
marked_one m n h small =
    let shift : (1 * 2 ^ (n % 8)) % 256 ≡ 2 ^ (n % 8) = one_shl (n % 8) 8 (omega arith) in
    let new = bit_or (get_or m (n / 8) 0) (2 ^ (n % 8)) in
    let room : n / 8 < length m = omega arith in
    ap (λ x. set m (n / 8) (bit_or (get_or m (n / 8) 0) x)) shift
    ∙ fill_by_all (λ i. number_of_bits (λ j. bit m (8 * i + j) || eqb (8 * i + j) n) 8) (set m (n / 8) new) (length m) 0 (simp length-set)
    (λ i b. elim (cases_eq i (n / 8)) [
      | inl e ↦ ap (λ x. get_or (set m (n / 8) new) x 0) e ∙ (rw get_or-set_same refl) ∙ octet_more m n (small (n / 8))
          ∙ ap (λ x. number_of_bits (λ j. bit m (8 * x + j) || eqb (8 * x + j) n) 8) (sym e)
      | inr e ↦ (rw get_or-set_other refl) ∙ octet_kept m (λ k. eqb k n) i (small i) (λ j l. ne_eqb (8 * i + j) n (λ z. e (omega arith)))
    ])

pub length_marked : (m : List ℕ) (w : ℕ → Bool) → length (marked m w) ≡ length m
length_marked m w = length-map-range_with_len (λ i. number_of_bits (λ j. bit m (8 * i + j) || w (8 * i + j)) 8) 0 (length m)

pub bit_marked : (m : List ℕ) (w : ℕ → Bool) (k : ℕ) → k < 8 * length m → bit (marked m w) k ≡ (bit m k || w k)
bit_marked m w k h = bit_made (λ k. bit m k || w k) (length m) k h

pub marked_same : (m : List ℕ) (w x : ℕ → Bool) → ((k : ℕ) → k < 8 * length m → (bit m k || w k) ≡ (bit m k || x k)) → marked m w ≡ marked m x
marked_same m w x h = bits_same (λ k. bit m k || w k) (λ k. bit m k || x k) (length m) h

pub marked_twice : (m : List ℕ) (w x : ℕ → Bool) → marked (marked m w) x ≡ marked m (λ k. w k || x k)
marked_twice m w x =
    ap (λ n. map (λ i. number_of_bits (λ j. bit (marked m w) (8 * i + j) || x (8 * i + j)) 8) (range_with_len 0 n)) (length_marked m w)
    ∙ bits_same (λ k. bit (marked m w) k || x k) (λ k. bit m k || (w k || x k)) (length m)
    (λ k h. ap (λ b. b || x k) (bit_marked m w k h) ∙ sym (or_assoc (bit m k) (w k) (x k)))

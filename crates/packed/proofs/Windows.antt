-- Runs of bits, read and written through a window of three octets.
use Rattle.std.proofs.Common.{◌≡◌, ℕ, zero, suc, ◌+◌, ◌-◌, ◌*◌, ◌/◌, ◌%◌, ◌^◌, ◌<◌, ◌≤◌, ◌≢◌, List, [], ◌∷◌, length, get_or, sym, refl, ap, ◌∙◌, subst, ap₂, inl, inr, mod-eq_of_lt, arith, length-set, get_or-set_other, get_or-set_same}
use lib.Pow.{mod-mod-pow}
use Rattle.std.proofs.lemmas.List.{get_or_past}
use Rattle.std.proofs.lemmas.Nat.{shr-shr, field_of, pow_pos, pow-add, mod_below, mod_low, shr_high, shr_below, mul-add-lt, mul-le, one_shl}
use Rattle.std.proofs.lemmas.Bool.{cases_lt}
use Rattle.std.proofs.lemmas.Bool.Decides.{nat_tests}
use Rattle.std.specs.Int.Digits.{number_from_digits, AllBelowBase}
use Rattle.packed.proofs.Samples.{same_run, octets_bit, octets_run}
use Rattle.packed.specs.BitRuns.{bit_at, run_at, bit_after, window_at, window_set, spliced}

-- the octets of a window are octets
abbrev pub Octets : List ℕ → ℕ → Type 0
Octets m i = (get_or m i 0 < 256) × (get_or m (i + 1) 0 < 256) × (get_or m (i + 2) 0 < 256)

abbrev three : List ℕ → ℕ → List ℕ
three m i = get_or m i 0 ∷ get_or m (i + 1) 0 ∷ get_or m (i + 2) 0 ∷ []

written : (a b c : ℕ) → number_from_digits 256 (a ∷ b ∷ c ∷ []) ≡ (a * 256 + b) * 256 + c
written a b c = omega arith

three_octets : (m : List ℕ) (i : ℕ) → Octets m i → AllBelowBase 256 (three m i)
three_octets m i o = (o.0, (o.1, (o.2, tt)))

three_at : (m : List ℕ) (i j : ℕ) → j < 3 → get_or m (i + j) 0 ≡ get_or (three m i) j 0
three_at m i zero h = let e : i + 0 ≡ i = omega arith in ap (λ k. get_or m k 0) e
three_at m i (suc zero) h = refl
three_at m i (suc (suc zero)) h = refl
three_at m i (suc (suc (suc j))) h = omega arith

-- bit t from octet i on is bit t of the window
three_bit : (m : List ℕ) (i t : ℕ) → t < 24 → bit_at m (8 * i + t) ≡ bit_at (three m i) t
three_bit m i t h =
    let q : (8 * i + t) / 8 ≡ i + t / 8 = omega arith in
    let r : (8 * i + t) % 8 ≡ t % 8 = omega arith in
    ap₂ (λ j u. get_or m j 0 / 2 ^ (7 - u) % 2) q r ∙ ap (λ n. n / 2 ^ (7 - t % 8) % 2) (three_at m i (t / 8) (omega arith))

-- and bit 23 - t of its number
number_bit : (a b c t : ℕ) → AllBelowBase 256 (a ∷ b ∷ c ∷ []) → t < 24 → bit_at (a ∷ b ∷ c ∷ []) t ≡ ((a * 256 + b) * 256 + c) / 2 ^ (23 - t) % 2
number_bit a b c t under h =
    let e : 24 - (t + 1) ≡ 23 - t = omega arith in
    octets_bit (a ∷ b ∷ c ∷ []) t under h ∙ ap₂ (λ x z. x / 2 ^ z % 2) (written a b c) e

window_bit : (m : List ℕ) (i t : ℕ) → Octets m i → t < 24 → bit_at m (8 * i + t) ≡ window_at m i / 2 ^ (23 - t) % 2
window_bit m i t o h =
    three_bit m i t h ∙ number_bit (get_or m i 0) (get_or m (i + 1) 0) (get_or m (i + 2) 0) t (three_octets m i o) h

-- n bits from bit b on
pub run_of : (m : List ℕ) (b n : ℕ) → Octets m (b / 8) → n ≤ 16 → run_at m b n ≡ window_at m (b / 8) / 2 ^ (24 - b % 8 - n) % 2 ^ n
run_of m b n o h =
    let i = b / 8 in
    let t = b % 8 in
    let e : 24 - (t + n) ≡ 24 - t - n = omega arith in
    same_run (three m i) m t b n (λ j k.
    let f : b + j ≡ 8 * i + (t + j) = omega arith in
    ap (bit_at m) f ∙ three_bit m i (t + j) (omega arith))
    ∙ octets_run (three m i) t n (three_octets m i o) (omega arith)
    ∙ ap₂ (λ x z. x / 2 ^ z % 2 ^ n) (written (get_or m i 0) (get_or m (i + 1) 0) (get_or m (i + 2) 0)) e

-- the number that a splice gives is as short as the one it is made from
pub spliced_below : (w s n x : ℕ) → w < 2 ^ 24 → s + n ≤ 24 → x < 2 ^ n → spliced w s n x < 2 ^ 24
spliced_below w s n x hw hs hx =
    let o = 24 - (s + n) in
    let e : 24 ≡ o + (s + n) = omega arith in
    let f : 24 ≡ s + (n + o) = omega arith in
    let P : ℕ → Type 0 = λ k. w < 2 ^ k in
    let top : w / 2 ^ (s + n) < 2 ^ o = shr_below w o (s + n) (subst P e hw) in
    let inner : w / 2 ^ (s + n) * 2 ^ n + x < 2 ^ n * 2 ^ o = mul-add-lt (w / 2 ^ (s + n)) (2 ^ n) x (2 ^ o) top hx in
    let outer : spliced w s n x < 2 ^ s * (2 ^ n * 2 ^ o) = mul-add-lt (w / 2 ^ (s + n) * 2 ^ n + x) (2 ^ s) (w % 2 ^ s) (2 ^ n * 2 ^ o) inner (mod_below w (2 ^ s) (pow_pos s)) in
    omega (arith, outer, ap (λ k. 2 ^ k) f, pow-add 2 s (n + o), ap (λ k. 2 ^ s * k) (pow-add 2 n o))

-- a bit of the low part of a number
low_bit : (v s k : ℕ) → k < s → v / 2 ^ k % 2 ≡ v % 2 ^ s / 2 ^ k % 2
low_bit v s k h =
    let j = s - k - 1 in
    let e : j + 1 + k ≡ s = omega arith in
    sym (ap (λ z. v % 2 ^ z / 2 ^ k % 2) (sym e) ∙ ap (λ z. z % 2) (field_of v (j + 1) k) ∙ mod-mod-pow (v / 2 ^ k) j 1)

-- below the splice, in it and above it
spliced_low : (w s n x k : ℕ) → k < s → spliced w s n x / 2 ^ k % 2 ≡ w / 2 ^ k % 2
spliced_low w s n x k h =
    low_bit (spliced w s n x) s k h
    ∙ ap (λ z. z / 2 ^ k % 2) (mod_low (w / 2 ^ (s + n) * 2 ^ n + x) s (w % 2 ^ s) (mod_below w (2 ^ s) (pow_pos s)))
    ∙ sym (low_bit w s k h)

spliced_top : (w s n x : ℕ) → spliced w s n x / 2 ^ s ≡ w / 2 ^ (s + n) * 2 ^ n + x
spliced_top w s n x = shr_high (w / 2 ^ (s + n) * 2 ^ n + x) s (w % 2 ^ s) (mod_below w (2 ^ s) (pow_pos s))

spliced_in : (w s n x k : ℕ) → x < 2 ^ n → k < n → spliced w s n x / 2 ^ (s + k) % 2 ≡ x / 2 ^ k % 2
spliced_in w s n x k hx h =
    ap (λ z. z % 2) (sym (shr-shr (spliced w s n x) s k))
    ∙ ap (λ z. z / 2 ^ k % 2) (spliced_top w s n x)
    ∙ low_bit (w / 2 ^ (s + n) * 2 ^ n + x) n k h
    ∙ ap (λ z. z / 2 ^ k % 2) (mod_low (w / 2 ^ (s + n)) n x hx)

spliced_high : (w s n x k : ℕ) → x < 2 ^ n → spliced w s n x / 2 ^ (s + n + k) ≡ w / 2 ^ (s + n + k)
spliced_high w s n x k hx =
    sym (shr-shr (spliced w s n x) (s + n) k)
    ∙ ap (λ z. z / 2 ^ k) (sym (shr-shr (spliced w s n x) s n) ∙ ap (λ z. z / 2 ^ n) (spliced_top w s n x) ∙ shr_high (w / 2 ^ (s + n)) n x hx)
    ∙ shr-shr w (s + n) k

-- the shifts that make a splice lose nothing
pub inner_shift : (w s n x : ℕ) → w < 2 ^ 24 → s + n ≤ 24 → x < 2 ^ n
    → (w / 2 ^ (s + n) * 2 ^ n % 2 ^ 32 + x ≡ w / 2 ^ (s + n) * 2 ^ n + x) × (w / 2 ^ (s + n) * 2 ^ n + x < 2 ^ 24)
inner_shift w s n x hw hs hx =
    let high = w / 2 ^ (s + n) * 2 ^ n in
    let one = mul-le (high + x) 1 (high + x) (2 ^ s) (omega arith) (pow_pos s) in
    let below : high + x < 2 ^ 24 = omega (arith, one, spliced_below w s n x hw hs hx) in
    let whole : high % 2 ^ 32 ≡ high = mod-eq_of_lt (omega arith) in
    (ap (λ z. z + x) whole, below)

pub splice_shifts : (w s n x : ℕ) → w < 2 ^ 24 → s + n ≤ 24 → x < 2 ^ n
    → (w / 2 ^ (s + n) * 2 ^ n % 2 ^ 32 + x) * 2 ^ s % 2 ^ 32 + w % (1 * 2 ^ s % 2 ^ 32) ≡ spliced w s n x
splice_shifts w s n x hw hs hx =
    let inner = inner_shift w s n x hw hs hx in
    let b = w / 2 ^ (s + n) * 2 ^ n + x in
    let whole : b * 2 ^ s % 2 ^ 32 ≡ b * 2 ^ s = mod-eq_of_lt (omega (arith, spliced_below w s n x hw hs hx)) in
    ap₂ (λ y z. y + w % z) (ap (λ z. z * 2 ^ s % 2 ^ 32) inner.0 ∙ whole) (one_shl s 32 (omega arith))

-- what a window-set leaves: three octets, where they are there
kept_octet : (m : List ℕ) (i n j : ℕ) → j ≢ i → j ≢ i + 1 → j ≢ i + 2 → get_or (window_set m i n) j 0 ≡ get_or m j 0
kept_octet m i n j x y z = grind (arith, get_or-set_other)

same_length : (m : List ℕ) (i n : ℕ) → length (window_set m i n) ≡ length m
same_length m i n = simp length-set refl

past_octets : (m : List ℕ) (i n j : ℕ) → length m ≤ j → get_or (window_set m i n) j 0 ≡ get_or m j 0
past_octets m i n j h = get_or_past (window_set m i n) j 0 (omega (arith, same_length m i n)) ∙ sym (get_or_past m j 0 h)

new_octet : (m : List ℕ) (i n j : ℕ) → j < 3 → i + j < length m → get_or (window_set m i n) (i + j) 0 ≡ get_or (n / 65536 ∷ n / 256 % 256 ∷ n % 256 ∷ []) j 0
new_octet m i n zero h k = grind (arith, get_or-set_other, get_or-set_same, length-set)
new_octet m i n (suc zero) h k = grind (arith, get_or-set_other, get_or-set_same, length-set)
new_octet m i n (suc (suc zero)) h k = grind (arith, get_or-set_other, get_or-set_same, length-set)
new_octet m i n (suc (suc (suc j))) h k = omega arith

new_bit : (m : List ℕ) (i n t : ℕ) → n < 2 ^ 24 → t < 24 → i + t / 8 < length m → bit_at (window_set m i n) (8 * i + t) ≡ n / 2 ^ (23 - t) % 2
new_bit m i n t hn ht hl =
    let q : (8 * i + t) / 8 ≡ i + t / 8 = omega arith in
    let r : (8 * i + t) % 8 ≡ t % 8 = omega arith in
    let e : (n / 65536 * 256 + n / 256 % 256) * 256 + n % 256 ≡ n = omega arith in
    ap₂ (λ j u. get_or (window_set m i n) j 0 / 2 ^ (7 - u) % 2) q r
    ∙ ap (λ z. z / 2 ^ (7 - t % 8) % 2) (new_octet m i n (t / 8) (omega arith) hl)
    ∙ number_bit (n / 65536) (n / 256 % 256) (n % 256) t (omega arith, (omega arith, (omega arith, tt))) ht
    ∙ ap (λ z. z / 2 ^ (23 - t) % 2) e

-- a bit outside the run
out_before : (m : List ℕ) (b n x k : ℕ) → k < b → bit_at m k ≡ bit_after m b n x k
out_before m b n x k h = grind (arith, nat_tests)

out_after : (m : List ℕ) (b n x k : ℕ) → b + n ≤ k → bit_at m k ≡ bit_after m b n x k
out_after m b n x k h = grind (arith, nat_tests)

in_run : (m : List ℕ) (b n x k : ℕ) → b ≤ k → k < b + n → x / 2 ^ (b + n - 1 - k) % 2 ≡ bit_after m b n x k
in_run m b n x k h l = grind (arith, nat_tests)

-- a splice of the window, set, changes the run and no other bit
pub put_run : (m : List ℕ) (b n x : ℕ) → Octets m (b / 8) → window_at m (b / 8) < 2 ^ 24 → n ≤ 16 → x < 2 ^ n → b + n ≤ 8 * length m
    → (k : ℕ) → bit_at (window_set m (b / 8) (spliced (window_at m (b / 8)) (24 - b % 8 - n) n x)) k ≡ bit_after m b n x k
put_run m b n x octets hw hn hx hl k =
    let i = b / 8 in
    let s = 24 - b % 8 - n in
    let w = window_at m i in
    let new = spliced w s n x in
    let m' = window_set m i new in
    let same : get_or m' (k / 8) 0 ≡ get_or m (k / 8) 0 → bit_at m' k ≡ bit_at m k = λ e. ap (λ z. z / 2 ^ (7 - k % 8) % 2) e in
    elim (cases_lt k (8 * i)) [
      | inl h ↦ same (kept_octet m i new (k / 8) (λ z. omega arith) (λ z. omega arith) (λ z. omega arith)) ∙ out_before m b n x k (omega arith)
      | inr h ↦ elim (cases_lt k (8 * i + 24)) [
        | inr l ↦ same (kept_octet m i new (k / 8) (λ z. omega arith) (λ z. omega arith) (λ z. omega arith)) ∙ out_after m b n x k (omega arith)
        | inl l ↦ elim (cases_lt (k / 8) (length m)) [
          | inr p ↦ same (past_octets m i new (k / 8) p) ∙ out_after m b n x k (omega arith)
          | inl p ↦
              let t = k - 8 * i in
              let e : k ≡ 8 * i + t = omega arith in
              let fresh : bit_at m' k ≡ new / 2 ^ (23 - t) % 2 = ap (bit_at m') e ∙ new_bit m i new t (spliced_below w s n x hw (omega arith) hx) (omega arith) (omega arith) in
              let old : bit_at m k ≡ w / 2 ^ (23 - t) % 2 = ap (bit_at m) e ∙ window_bit m i t octets (omega arith) in
              elim (cases_lt k b) [
                | inl q ↦
                    let f : 23 - t ≡ s + n + (23 - t - (s + n)) = omega arith in
                    fresh ∙ ap (λ z. new / 2 ^ z % 2) f ∙ ap (λ z. z % 2) (spliced_high w s n x (23 - t - (s + n)) hx) ∙ ap (λ z. w / 2 ^ z % 2) (sym f) ∙ sym old
                    ∙ out_before m b n x k q
                | inr q ↦ elim (cases_lt k (b + n)) [
                  | inl r ↦
                      let f : 23 - t ≡ s + (b + n - 1 - k) = omega arith in
                      fresh ∙ ap (λ z. new / 2 ^ z % 2) f ∙ spliced_in w s n x (b + n - 1 - k) hx (omega arith) ∙ in_run m b n x k q r
                  | inr r ↦ fresh ∙ spliced_low w s n x (23 - t) (omega arith) ∙ sym old ∙ out_after m b n x k r
                ]
              ]
        ]
      ]
    ]

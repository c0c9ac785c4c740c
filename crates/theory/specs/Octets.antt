-- Numbers and octets: what the other definitions share. Numbers in octets stand most significant first.
use Rattle.std.specs.Prelude.{ℕ, zero, suc, ◌+◌, ◌-◌, ◌*◌, ◌/◌, ◌%◌, ◌^◌, ◌<◌, Bool, true, false, cond, ◌&&◌, ◌||◌, List, [], ◌∷◌, ◌++◌, map, length, ◌==◌, slice_index}
use Rattle.std.specs.List.{range_with_len}

-- a divided by b, rounded up
abbrev pub ceil_div : ℕ → ℕ → ℕ
ceil_div a b = (a + (b - 1)) / b

-- the octet at i, 0 past the end
abbrev pub octet : List ℕ → ℕ → ℕ
octet q i = slice_index q i

-- the 16-bit number that begins at octet i, and the octets of one
abbrev pub number16 : List ℕ → ℕ → ℕ
number16 q i = octet q i * 256 + octet q (i + 1)

abbrev pub octets16 : ℕ → List ℕ
octets16 n = (n / 256) % 256 ∷ n % 256 ∷ []

-- the 32-bit number that begins at octet i, and the octets of one
abbrev pub number32 : List ℕ → ℕ → ℕ
number32 q i = number16 q i * 65536 + number16 q (i + 2)

abbrev pub octets32 : ℕ → List ℕ
octets32 n = octets16 (n / 65536) ++ octets16 (n % 65536)

-- x as n digits of a bits each: digit k, the most significant being digit 0, and all of them
abbrev pub digit : ℕ → ℕ → ℕ → ℕ → ℕ
digit a n x k = (x / 2 ^ ((n - 1 - k) * a)) % 2 ^ a

abbrev pub digits : ℕ → ℕ → ℕ → List ℕ
digits a n x = map (digit a n x) (range_with_len 0 n)

-- a list of octets
abbrev pub AllOctets : List ℕ → Type 0
AllOctets m = (i : ℕ) → i < length m → octet m i < 256

-- bit n of a map: bit n mod 8, worth 2 ^ (n mod 8), of octet n div 8
abbrev pub bit : List ℕ → ℕ → Bool
bit m n = (octet m (n / 8) / 2 ^ (n % 8)) % 2 == 1

-- the number of n bits whose bit j is f j, and the map of n octets whose bit k is f k
abbrev pub number_of_bits : (ℕ → Bool) → ℕ → ℕ
number_of_bits f zero = 0
number_of_bits f (suc n) = number_of_bits f n + cond (f n) (2 ^ n) 0

abbrev pub map_of_bits : (ℕ → Bool) → ℕ → List ℕ
map_of_bits f n = map (λ i. number_of_bits (λ j. f (8 * i + j)) 8) (range_with_len 0 n)

-- the map with the bits f set too
abbrev pub marked : List ℕ → (ℕ → Bool) → List ℕ
marked m f = map_of_bits (λ k. bit m k || f k) (length m)

-- how many of the numbers below n pass
abbrev pub count_below : ℕ → (ℕ → Bool) → ℕ
count_below zero f = 0
count_below (suc n) f = count_below n f + cond (f n) 1 0

-- whether each, or some, of the numbers below n passes
abbrev pub all_below : ℕ → (ℕ → Bool) → Bool
all_below zero f = true
all_below (suc n) f = f n && all_below n f

abbrev pub any_below : ℕ → (ℕ → Bool) → Bool
any_below zero f = false
any_below (suc n) f = f n || any_below n f

-- the first number from a on that passes, of the next n; a + n if none does
abbrev pub first_from : ℕ → ℕ → (ℕ → Bool) → ℕ
first_from a zero f = a
first_from a (suc n) f = cond (f a) a (first_from (a + 1) n f)

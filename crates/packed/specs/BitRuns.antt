-- Bits of octets, the most significant first, and the numbers that runs of them stand for.
use Rattle.std.specs.Prelude.{ℕ, zero, suc, ◌+◌, ◌-◌, ◌*◌, ◌/◌, ◌%◌, ◌^◌, cond, ◌&&◌, List, nat_le, nat_lt, slice_index, slice_set}

-- bit k of the octets; 0 past their end
abbrev pub bit_at : List ℕ → ℕ → ℕ
bit_at m k = slice_index m (k / 8) / 2 ^ (7 - k % 8) % 2

-- the number that n bits from bit b on stand for
abbrev pub run_at : List ℕ → ℕ → ℕ → ℕ
run_at m b zero = 0
run_at m b (suc n) = 2 * run_at m b n + bit_at m (b + n)

-- bit k after the n bits from b on became the number x
abbrev pub bit_after : List ℕ → ℕ → ℕ → ℕ → ℕ → ℕ
bit_after m b n x k = cond (nat_le b k && nat_lt k (b + n)) (x / 2 ^ (b + n - 1 - k) % 2) (bit_at m k)

-- three octets from octet i on, as one number
abbrev pub window_at : List ℕ → ℕ → ℕ
window_at m i = (slice_index m i * 256 + slice_index m (i + 1)) * 256 + slice_index m (i + 2)

-- a number with the n bits above its lowest s replaced by x
abbrev pub spliced : ℕ → ℕ → ℕ → ℕ → ℕ
spliced w s n x = (w / 2 ^ (s + n) * 2 ^ n + x) * 2 ^ s + w % 2 ^ s

-- the octets with three of them, from octet i on, made from one number; those past the end are left out
abbrev pub window_set : List ℕ → ℕ → ℕ → List ℕ
window_set m i n = slice_set (slice_set (slice_set m i (n / 65536)) (i + 1) (n / 256 % 256)) (i + 2) (n % 256)

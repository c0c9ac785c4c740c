-- Numbers in a format line. Assumes nothing.
use Rattle.std.specs.Prelude.{ℕ, ◌-◌, ◌%◌, min, Bool, cond, not, ◌&&◌, List, map, Some, None, Option, option_and_then, ◌==◌, nat_le, nat_lt, slice_index}
use Rattle.std.specs.List.{list_all, range_with_len}
use Rattle.std.specs.Char.{is_ascii_digit}
use Rattle.std.specs.Int.Digits.{number_from_digits}
use Rattle.fmtp.specs.Lines.{before, behind, empty}
use Rattle.records.specs.declared.Ratio.{Ratio}

infixl 10 ◌>>=◌
-- what is read in two steps
abbrev pub ◌>>=◌ : {A B : Type 0} → Option A → (A → Option B) → Option B
o >>= f = option_and_then f o

-- the number that decimal digits write
abbrev pub written : List ℕ → ℕ
written text = number_from_digits 10 (map (λ c. c - 0x30) text)

-- a number from 1 to the limit, in decimal digits without a leading zero
abbrev pub decimal_of : ℕ → List ℕ → Option ℕ
decimal_of limit text =
    cond (not (empty text) && not (slice_index text 0 == 0x30) && (list_all is_ascii_digit text && nat_le (written text) limit)) (Some (written text)) None

abbrev pub divides_both : ℕ → ℕ → ℕ → Bool
divides_both a b k = a % k == 0 && b % k == 0

-- no number from 2 on divides both
abbrev pub coprime : ℕ → ℕ → Bool
coprime a b = list_all (λ k. not (divides_both a b k)) (range_with_len 2 (min a b - 1))

-- two numbers up to the limit with the separator between them, without a common divisor
abbrev pub ratio_of : ℕ → ℕ → List ℕ → Option Ratio
ratio_of separator limit text = do
  n ← decimal_of limit (before separator text)
  d ← behind separator text >>= decimal_of limit
  cond (coprime n d) (Some (record { numerator = n; denominator = d })) None

abbrev pub fraction : Ratio → Option Ratio
fraction r = cond (nat_lt 1 r.denominator) (Some r) None

abbrev whole_or : Option ℕ → Option Ratio → Option Ratio
whole_or (Some n) other = Some (record { numerator = n; denominator = 1 })
whole_or None other = other

-- a frame rate: n, or n/d with d above 1
abbrev pub rate_of : List ℕ → Option Ratio
rate_of text = whole_or (decimal_of 999999 text) (ratio_of 0x2F 999999 text >>= fraction)

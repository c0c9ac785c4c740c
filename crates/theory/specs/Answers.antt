-- What a call answers: a number, or the number of the first row of the refusal table that holds.
use Rattle.std.specs.Prelude.{ℕ, Bool, true, false, cond, List, [], ◌∷◌, Some, None, Ok, Err, Option, Result}

-- of rows in their order, each a condition and its number, the number of the first whose condition holds
abbrev pub first_row : List (Bool × ℕ) → Option ℕ
first_row [] = None
first_row (x ∷ xs) = cond x.0 (Some x.1) (first_row xs)

abbrev pub is_none : Option ℕ → Bool
is_none None = true
is_none (Some row) = false

-- a value, where nothing refuses it
abbrev pub unless : {X : Type 0} → Option ℕ → X → Result X ℕ
unless None x = Ok x
unless (Some row) x = Err row

-- a number, or the number of a refusal
abbrev pub Answer : Type 0
Answer = Result ℕ ℕ

abbrev pub answer : Option ℕ → ℕ → Answer
answer None n = Ok n
answer (Some row) n = Err row

-- what a call answers that is done or refused
abbrev pub verdict : Option ℕ → Result (Unit {0}) ℕ
verdict r = unless r tt

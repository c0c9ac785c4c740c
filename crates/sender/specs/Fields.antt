-- The fields of a format by its scan alone: two, but one where it is progressive.
use Rattle.std.specs.Prelude.{ℕ, Bool, cond, ◌==◌, nat_le}

abbrev pub has_field : ℕ → ℕ → Bool
has_field scan n = nat_le n (cond (scan == 0) 0 1)

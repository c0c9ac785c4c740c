-- The bits of a sample. Assumes nothing.
use Rattle.std.specs.Prelude.{ℕ}
use Rattle.records.specs.declared.Depth.{Depth}
use Rattle.records.specs.declared.Depth.TheVariants.{Bits8, Bits10, Bits12, Bits16, Float16}

-- 16f is carried as sixteen bits
abbrev pub depth_bits : Depth → ℕ
depth_bits Bits8 = 8
depth_bits Bits10 = 10
depth_bits Bits12 = 12
depth_bits Bits16 = 16
depth_bits Float16 = 16

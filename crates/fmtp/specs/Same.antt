-- When two lines say the same. Assumes nothing.
use Rattle.std.specs.Prelude.{◌≡◌, ℕ, true, false, List, is_some, filter}
use Rattle.std.specs.List.Sorted.{IsPermutation}
use Rattle.fmtp.specs.Lines.{EntryText, entries, well_formed}
use Rattle.fmtp.specs.Parameters.{parameter_of}
use Rattle.fmtp.specs.Reading.{too_long}

-- the entries whose names are known
abbrev pub known : List EntryText → List EntryText
known es = filter (λ e. is_some (parameter_of e.name)) es

-- a line that is not refused for its length or for its entries
pub record Legible (line : List ℕ) : Type 0 where
  pub short : too_long line ≡ false
  pub formed : well_formed line ≡ true

-- both lines are legible, and have the same known entries, in any order
pub record SameParameters (a b : List ℕ) : Type 0 where
  pub first : Legible a
  pub second : Legible b
  pub entries_same : IsPermutation (known (entries a)) (known (entries b))

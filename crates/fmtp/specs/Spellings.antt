-- Values that are spelled as one of a list of texts. Assumes nothing.
use Rattle.std.specs.Prelude.{ℕ, List, Option, find}
use Rattle.std.specs.Str.{bytes_eq}

-- the value of the list that the text spells
abbrev pub spelled : {T : Type 0} → (T → List ℕ) → List T → List ℕ → Option T
spelled spelling values text = find (λ v. bytes_eq (spelling v) text) values

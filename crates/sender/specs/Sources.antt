-- Why a part and a store are not sent from.
use Rattle.std.specs.Prelude.{ℕ, not, [], ◌∷◌, Option}
use Rattle.theory.specs.Answers.{first_row}
use Rattle.theory.specs.Formats.{Part, lawful_format}
use Rattle.theory.specs.Pictures.{Picture, fits_part}

abbrev pub source_refusal : Part → Picture → Option ℕ
source_refusal t v = first_row ((not (lawful_format t.format), 4) ∷ (not (fits_part v t), 6) ∷ [])

-- What holds of every run that has led to the present picture and map.
use Rattle.std.specs.Prelude.{◌≡◌, ℕ, true, List, [], Ok}
use Rattle.theory.specs.Answers.{Answer}
use Rattle.theory.specs.Formats.{Part}
use Rattle.theory.specs.Pictures.{Picture, LawfulPicture, fits_part}
use Rattle.theory.specs.Runs.{Start, Event, Reached, Law, packets_taken, unnamed_groups}

-- an opening of this part, which leads from the first map to the second, begins a run over every lawful picture
abbrev pub Begins : Part → List ℕ → List ℕ → Type 0
Begins t m n =
    (v : Picture) → LawfulPicture v → (s : Start) × (s.part ≡ t) × (s.picture ≡ v) × (s.map ≡ m) × Reached s [] v n

-- the law of runs holds of every run of this part that has come to this picture and this map
abbrev pub LawHolds : Part → Picture → List ℕ → Type 0
LawHolds t v m = (s : Start) (es : List Event) → s.part ≡ t → Reached s es v m → Law s es v m

-- the answer is the number of groups that no packet names that was taken, whichever run of this part has come to this map
abbrev pub CountsUnnamed : Part → List ℕ → Answer → Type 0
CountsUnnamed t m a =
    (s : Start) (es : List Event) (v : Picture) → s.part ≡ t → Reached s es v m → a ≡ Ok (unnamed_groups t (packets_taken es))

-- the same of every run that has come to this picture too, where the picture fits the part
abbrev pub SurveysUnnamed : Part → Picture → List ℕ → Answer → Type 0
SurveysUnnamed t v m a =
    (s : Start) (es : List Event) → s.part ≡ t → Reached s es v m → fits_part v t ≡ true → a ≡ Ok (unnamed_groups t (packets_taken es))

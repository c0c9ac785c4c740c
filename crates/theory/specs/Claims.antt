-- What is proved of these definitions; each is named by the contract of a function.
use Rattle.std.specs.Prelude.{◌≡◌, ℕ, ◌^◌, ◌<◌, true, false, List}
use Rattle.theory.specs.Octets.{AllOctets}
use Rattle.theory.specs.Layouts.{Kind, LawfulKind}
use Rattle.theory.specs.Kinds.{key, ycc444, rgb, xyz, ycc422, ycc420}
use Rattle.theory.specs.Groups.{RoundTrip}
use Rattle.theory.specs.Formats.{Part, LawfulPart}
use Rattle.theory.specs.Pictures.{Picture, LawfulPicture, fits_part}
use Rattle.theory.specs.Taking.{taken, picture_after, map_after}
use Rattle.theory.specs.Readable.{Readable}
use Rattle.theory.specs.Cutting.{whole_part}
use Rattle.theory.specs.Wholes.{WholePart}
use Rattle.theory.specs.Runs.{Event, Start, Reached, Law}

-- the law of runs, for every start, every run and every state that the run reached
abbrev pub RunsKeepTheLaw : Type 0
RunsKeepTheLaw = (s : Start) (es : List Event) (v : Picture) (m : List ℕ) → Reached s es v m → Law s es v m

-- a packet that is taken can be read, for every kind with the laws
abbrev pub TakenAreReadable : Type 0
TakenAreReadable =
    (t : Part) → LawfulKind t.format.kind → (v : Picture) (m q : List ℕ) → taken t v m q ≡ true → Readable t v m q

-- an offer that is refused leaves the picture and the map as they were
abbrev pub RefusalsChangeNothing : Type 0
RefusalsChangeNothing =
    (t : Part) (v : Picture) (m q : List ℕ) → AllOctets m → taken t v m q ≡ false
    → (picture_after t v m q ≡ v) × (map_after t v m q ≡ m)

-- the packets of a whole part are that, for every part that can be opened and every lawful picture that fits it
abbrev pub PartsAreWhole : Type 0
PartsAreWhole =
    (t : Part) (v : Picture) (seq : ℕ) → LawfulPart t → LawfulPicture v → fits_part v t ≡ true → seq < 2 ^ 32
    → WholePart t v seq (whole_part t v seq)

-- a group built and taken apart again, and one taken apart and built again, for every kind with the laws and each of its depths
abbrev pub GroupsRoundTrip : Type 0
GroupsRoundTrip = (k : Kind) → LawfulKind k → (depth : ℕ) → 0 < (k.layout depth).octets → RoundTrip (k.layout depth) depth

-- the kinds of the standard have the laws
pub record StandardKinds : Type 0 where
  pub key_lawful : LawfulKind key
  pub ycc444_lawful : LawfulKind ycc444
  pub rgb_lawful : LawfulKind rgb
  pub xyz_lawful : LawfulKind xyz
  pub ycc422_lawful : LawfulKind ycc422
  pub ycc420_lawful : LawfulKind ycc420

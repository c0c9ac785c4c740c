-- Runs: the offers and counts between the opening of a part and the present, with their answers, and the law of what they add up to.
use Rattle.std.specs.Prelude.{◌≡◌, ℕ, ◌^◌, ◌<◌, ◌≤◌, Bool, true, false, cond, not, ◌&&◌, ◌||◌, List, [], ◌∷◌, ◌++◌, length, Some, None, Ok, Err, Option, nat_le}
use mathlib.Core.List.{Memᴰ}
use Rattle.theory.specs.Answers.{Answer, answer}
use Rattle.theory.specs.Octets.{AllOctets, bit, count_below}
use Rattle.theory.specs.Formats.{Part, LawfulPart, groups, map_octets}
use Rattle.theory.specs.Pictures.{Picture, LawfulPicture, SameSizes, inside, fits_part}
use Rattle.theory.specs.Groups.{group_of}
use Rattle.theory.specs.Taking.{opened_map, names, octets_of, reads, offer_refusal, picture_after, map_after, offer_answer, count_answer}
use Rattle.theory.specs.Cutting.{whole_part}

-- an opening: a part, the picture of the store that its packets are offered with, and the map; the opening has tested the map's length, and
-- a store's picture is lawful and a map holds octets by what they are
pub record Start : Type 0 where
  pub part : Part
  pub picture : Picture
  pub map : List ℕ
  pub lawful_part : LawfulPart part
  pub lawful_picture : LawfulPicture picture
  pub map_long : nat_le (map_octets part) (length map) ≡ true
  pub map_fits : AllOctets map

-- one call of a run and what it answered: a packet was offered, or the missing groups were counted
pub data Event : Type 0 where
  offer : List ℕ → Answer → Event
  count : Answer → Event

-- from this start, these events (the newest first) led to this picture and this map
pub data Reached (s : Start) : List Event → Picture → List ℕ → Type 0 where
  opened : Reached s [] s.picture (opened_map s.part s.map)
  offered : {es : List Event} {v : Picture} {m : List ℕ} → Reached s es v m → (q : List ℕ)
      → Reached s (offer q (offer_answer s.part v m q) ∷ es) (picture_after s.part v m q) (map_after s.part v m q)
  counted : {es : List Event} {v : Picture} {m : List ℕ} → Reached s es v m
      → Reached s (count (count_answer s.part m) ∷ es) v m

-- the packets that were offered, the oldest first
abbrev pub packets_offered : List Event → List (List ℕ)
packets_offered [] = []
packets_offered (offer q a ∷ es) = packets_offered es ++ (q ∷ [])
packets_offered (count a ∷ es) = packets_offered es

-- the packets that were taken, the oldest first: those whose offer was answered with a number of groups
abbrev pub packets_taken : List Event → List (List ℕ)
packets_taken [] = []
packets_taken (offer q (Ok n) ∷ es) = packets_taken es ++ (q ∷ [])
packets_taken (offer q (Err n) ∷ es) = packets_taken es
packets_taken (count a ∷ es) = packets_taken es

-- why an offer of this packet is refused, nothing where it is taken: the start alone decides, as sizes stay
abbrev pub refusal : Start → List ℕ → Option ℕ
refusal s q = offer_refusal s.part s.picture s.map q

-- some packet of the list names the group
abbrev pub some_names : Part → List (List ℕ) → ℕ → Bool
some_names t [] g = false
some_names t (q ∷ qs) g = names t q g || some_names t qs g

-- the first packet of the list that names the group
abbrev pub earliest : Part → ℕ → List (List ℕ) → Option (List ℕ)
earliest t g [] = None
earliest t g (q ∷ qs) = cond (names t q g) (Some q) (earliest t g qs)

-- the sample at a place: the one in this packet, or, without a packet, the one at opening
abbrev pub sample_from : Start → ℕ → ℕ → ℕ → Option (List ℕ) → ℕ
sample_from s p r c (Some q) = reads s.part q p r c
sample_from s p r c None = s.picture.sample p r c

-- each group that both packets name has the same octets in both
abbrev pub Agree : Part → List ℕ → List ℕ → Type 0
Agree t q r = (g : ℕ) → names t q g ≡ true → names t r g ≡ true → octets_of t q g ≡ octets_of t r g

-- the packet is one of the list
abbrev pub Among : List ℕ → List (List ℕ) → Type 0
Among q qs = Memᴰ q qs

-- each packet of one list is one of the other, in any order and once or more
abbrev pub SamePackets : List (List ℕ) → List (List ℕ) → Type 0
SamePackets qs rs = (q : List ℕ) → (Among q qs → Among q rs) × (Among q rs → Among q qs)

-- how many groups of the part this packet names and no packet of the list does
abbrev pub new_groups : Part → List (List ℕ) → List ℕ → ℕ
new_groups t qs q = count_below (groups t) (λ g. names t q g && not (some_names t qs g))

-- how many groups of the part no packet of the list names
abbrev pub unnamed_groups : Part → List (List ℕ) → ℕ
unnamed_groups t qs = count_below (groups t) (λ g. not (some_names t qs g))

-- what holds of every run that has come to this picture and this map
pub record Law (s : Start) (es : List Event) (v : Picture) (m : List ℕ) : Type 0 where
  -- sizes and depth are those at opening
  pub sizes : SameSizes v s.picture
  -- the packets taken are those offered that no row of the table refuses
  pub taken : (q : List ℕ)
      → (Among q (packets_taken es) → Among q (packets_offered es) × (refusal s q ≡ None))
      × (Among q (packets_offered es) → refusal s q ≡ None → Among q (packets_taken es))
  -- each sample is the one in the earliest taken packet that names its group, or, if none names it, the one at opening
  pub samples : (p r c : ℕ) → inside v p r c ≡ true
      → v.sample p r c ≡ sample_from s p r c (earliest s.part (group_of s.part p r c) (packets_taken es))
  -- the map has the bits of the groups that taken packets name; its length and its other bits are those that the opening left
  pub bits : (g : ℕ) → g < groups s.part → bit m g ≡ some_names s.part (packets_taken es) g
  pub map_length : length m ≡ length s.map
  pub other_bits : (k : ℕ) → groups s.part ≤ k → bit m k ≡ bit (opened_map s.part s.map) k
  -- each offer, at any point, was answered with its refusal, or else with the number of groups that it names and no packet taken before it
  -- names
  pub answers : (later earlier : List Event) (q : List ℕ) (a : Answer) → es ≡ later ++ (offer q a ∷ earlier)
      → a ≡ answer (refusal s q) (new_groups s.part (packets_taken earlier) q)
  -- each count, at any point, was answered with the number of groups that no packet taken before it names
  pub counts : (later earlier : List Event) (a : Answer) → es ≡ later ++ (count a ∷ earlier)
      → a ≡ Ok (unnamed_groups s.part (packets_taken earlier))
  -- and so is a count made now
  pub count_now : count_answer s.part m ≡ Ok (unnamed_groups s.part (packets_taken es))
  -- an offer that is refused answers its refusal, and leaves the picture and the map as they are
  pub refused : (q : List ℕ) (row : ℕ) → refusal s q ≡ Some row
      → (offer_answer s.part v m q ≡ Err row) × (picture_after s.part v m q ≡ v) × (map_after s.part v m q ≡ m)
  -- if every two taken packets agree, then a run with the same start and the same taken packets ends in the same picture and map, and
  -- answers a count alike
  pub order : ((q r : List ℕ) → Among q (packets_taken es) → Among r (packets_taken es) → Agree s.part q r)
      → (fs : List Event) (w : Picture) (n : List ℕ) → Reached s fs w n → SamePackets (packets_taken es) (packets_taken fs)
      → (w ≡ v) × (n ≡ m) × (count_answer s.part n ≡ count_answer s.part m)
  -- if the offers hold a whole part's packets, sent from a picture of the store's sizes and depth, and every taken packet agrees with
  -- these, then the store shows the picture sent, and a count answers 0
  pub whole : (sent : Picture) (seq : ℕ) → seq < 2 ^ 32 → LawfulPicture sent → fits_part sent s.part ≡ true → SameSizes sent v
      → ((q : List ℕ) → Among q (whole_part s.part sent seq) → Among q (packets_offered es))
      → ((q r : List ℕ) → Among q (packets_taken es) → Among r (whole_part s.part sent seq) → Agree s.part q r)
      → (v ≡ sent) × (count_answer s.part m ≡ Ok 0)

-- Taking packets: what an opening, an offer and a count answer and leave, which groups a packet names, and what it reads as.
use Rattle.std.specs.Prelude.{ℕ, ◌+◌, ◌-◌, ◌*◌, Bool, cond, not, ◌&&◌, ◌||◌, List, [], ◌∷◌, ◌++◌, length, take, drop, replicate, Option, nat_le, nat_lt}
use Rattle.theory.specs.Answers.{first_row, is_none, Answer, answer}
use Rattle.theory.specs.Octets.{bit, marked, any_below, count_below, first_from}
use Rattle.theory.specs.Formats.{Part, layout_of, row_groups, groups, map_octets, lawful_format, lawful_field}
use Rattle.theory.specs.Pictures.{Picture, inside, with_samples, fits_part}
use Rattle.theory.specs.Groups.{value_at, group_of, position_in_group}
use Rattle.theory.specs.Packets.{headers, lengths, data_start, unit_row, first_group, segment_groups, packet_rows}

-- the rows that an opening over a map of so many octets tests, and why it is refused
abbrev pub open_rows : Part → ℕ → List (Bool × ℕ)
open_rows t octets =
    (not (lawful_format t.format), 4)
    ∷ (not (lawful_field t.format t.field), 5)
    ∷ (nat_lt octets (map_octets t), 6)
    ∷ []

abbrev pub open_refusal : Part → List ℕ → Option ℕ
open_refusal t m = first_row (open_rows t (length m))

-- the map with the octets that the part needs zeroed
abbrev pub opened_map : Part → List ℕ → List ℕ
opened_map t m = replicate (map_octets t) 0 ++ drop (map_octets t) m

-- the map after an opening, refused or not
abbrev pub map_after_opening : Part → List ℕ → List ℕ
map_after_opening t m = cond (is_none (open_refusal t m)) (opened_map t m) m

-- the number of the first group of segment i
abbrev pub segment_start : Part → List ℕ → ℕ → ℕ
segment_start t q i = unit_row t q i * row_groups t.format + first_group t q i

-- segment i names group g
abbrev pub segment_names : Part → List ℕ → ℕ → ℕ → Bool
segment_names t q i g = let s = segment_start t q i in nat_le s g && nat_lt g (s + segment_groups t q i)

-- some segment names group g
abbrev pub names : Part → List ℕ → ℕ → Bool
names t q g = any_below (headers q) (λ i. segment_names t q i g)

-- the octets of a group that the packet names
abbrev pub octets_of : Part → List ℕ → ℕ → List ℕ
octets_of t q g =
    let i = first_from 0 (headers q) (λ j. segment_names t q j g) in
    let o = (layout_of t.format).octets in
    take o (drop (data_start q + lengths q i + (g - segment_start t q i) * o) q)

-- the sample that the packet gives for a place of a group that it names
abbrev pub reads : Part → List ℕ → ℕ → ℕ → ℕ → ℕ
reads t q p r c = value_at (layout_of t.format) t.format.depth (octets_of t q (group_of t p r c)) (position_in_group t p r c)

-- the rows that an offer over a map of so many octets tests, in their order: the format's limits before all else
abbrev pub offer_rows : Part → Picture → ℕ → List ℕ → List (Bool × ℕ)
offer_rows t v octets q =
    (not (lawful_format t.format), 4)
    ∷ (not (fits_part v t) || nat_lt octets (map_octets t), 6)
    ∷ packet_rows t q

-- why an offer is refused; nothing where the packet is taken
abbrev pub offer_refusal : Part → Picture → List ℕ → List ℕ → Option ℕ
offer_refusal t v m q = first_row (offer_rows t v (length m) q)

-- no row of the table refuses the packet
abbrev pub taken : Part → Picture → List ℕ → List ℕ → Bool
taken t v m q = is_none (offer_refusal t v m q)

-- the offer sets group g: the packet is taken and names the group, and the group's bit is clear
abbrev pub sets : Part → Picture → List ℕ → List ℕ → ℕ → Bool
sets t v m q g = taken t v m q && names t q g && not (bit m g)

-- the picture and the map after an offer
abbrev pub picture_after : Part → Picture → List ℕ → List ℕ → Picture
picture_after t v m q =
    with_samples v (λ p r c. cond (inside v p r c && sets t v m q (group_of t p r c)) (reads t q p r c) (v.sample p r c))

abbrev pub map_after : Part → Picture → List ℕ → List ℕ → List ℕ
map_after t v m q = marked m (sets t v m q)

-- the number of groups that the offer sets
abbrev pub set_count : Part → Picture → List ℕ → List ℕ → ℕ
set_count t v m q = count_below (groups t) (sets t v m q)

-- what an offer answers: its refusal, or the number of groups set now
abbrev pub offer_answer : Part → Picture → List ℕ → List ℕ → Answer
offer_answer t v m q = answer (offer_refusal t v m q) (set_count t v m q)

-- the groups of the part whose bit is clear
abbrev pub missing : Part → List ℕ → ℕ
missing t m = count_below (groups t) (λ g. not (bit m g))

-- what a count answers: its refusal, or the number of missing groups
abbrev pub count_refusal : Part → List ℕ → Option ℕ
count_refusal t m = first_row ((not (lawful_format t.format), 4) ∷ (nat_lt (length m) (map_octets t), 6) ∷ [])

abbrev pub count_answer : Part → List ℕ → Answer
count_answer t m = answer (count_refusal t m) (missing t m)

-- what a count in front of the store answers: it tests the store too
abbrev pub survey_refusal : Part → Picture → List ℕ → Option ℕ
survey_refusal t v m =
    first_row ((not (lawful_format t.format), 4) ∷ (not (fits_part v t) || nat_lt (length m) (map_octets t), 6) ∷ [])

abbrev pub survey_answer : Part → Picture → List ℕ → Answer
survey_answer t v m = answer (survey_refusal t v m) (missing t m)

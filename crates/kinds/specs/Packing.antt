-- What the calls that build a group and take it apart answer and write, whatever they are given. A layout without octets is that of a depth
-- that the kind does not have.
use Rattle.std.specs.Prelude.{◌≡◌, ℕ, ◌+◌, ◌^◌, ◌<◌, Bool, cond, ◌&&◌, List, ◌++◌, length, take, drop, ◌==◌, nat_le, nat_lt, slice_index}
use Rattle.std.specs.List.{list_all}
use Rattle.theory.specs.Layouts.{Layout}
use Rattle.theory.specs.Groups.{value_at, samples_of_octets, octets_of_samples}

-- each number is below the limit
abbrev pub all_under : ℕ → List ℕ → Bool
all_under limit = list_all (λ x. nat_lt x limit)

-- the kind has the depth, and these octets are as many as a group has
abbrev pub is_group : Layout → List ℕ → Bool
is_group l os = nat_lt 0 l.octets && length os == l.octets

-- these samples are as many as a group has, each below 2 ^ depth
abbrev pub are_samples : Layout → ℕ → List ℕ → Bool
are_samples l depth xs = length xs == l.positions && all_under (2 ^ depth) xs

-- the sample at position k of a group; 0 if these are not a group's octets, or there is no such position
abbrev pub unpacked : Layout → ℕ → List ℕ → ℕ → ℕ
unpacked l depth os k = cond (is_group l os && nat_lt k l.positions) (value_at l depth os k) 0

-- whether all samples of a group can be read into these places, and what the places hold then: the samples, or as they were
abbrev pub unpacks_all : Layout → List ℕ → List ℕ → Bool
unpacks_all l os xs = is_group l os && length xs == l.positions

abbrev pub unpacked_all : Layout → ℕ → List ℕ → List ℕ → List ℕ
unpacked_all l depth os xs = cond (unpacks_all l os xs) (samples_of_octets l depth os) xs

-- whether samples can be written over these octets, and what the octets are then: those of the samples, or as they were
abbrev pub packs : Layout → ℕ → List ℕ → List ℕ → Bool
packs l depth xs os = is_group l os && are_samples l depth xs

abbrev pub packed : Layout → ℕ → List ℕ → List ℕ → List ℕ
packed l depth xs os = cond (packs l depth xs os) (octets_of_samples l depth xs) os

-- the same in a buffer, from octet i on: every octet before and behind the group stays
abbrev pub packs_into : Layout → ℕ → List ℕ → List ℕ → ℕ → Bool
packs_into l depth xs buffer i = nat_le (i + l.octets) (length buffer) && (nat_lt 0 l.octets && are_samples l depth xs)

abbrev pub packed_into : Layout → ℕ → List ℕ → List ℕ → ℕ → List ℕ
packed_into l depth xs buffer i =
    cond (packs_into l depth xs buffer i) (take i buffer ++ octets_of_samples l depth xs ++ drop (i + l.octets) buffer) buffer

-- each sample is read back from these octets
abbrev pub ReadsBack : Layout → ℕ → List ℕ → List ℕ → Type 0
ReadsBack l depth xs os = (k : ℕ) → k < l.positions → value_at l depth os k ≡ slice_index xs k

-- A refused offer leaves the picture and the map as they were.
use Rattle.std.proofs.Common.{◌≡◌, ℕ, false, not, ◌&&◌, ◌||◌, List, length, ap, ◌∙◌}
use mathlib.Core.Path.{fun_ext}
use Rattle.std.proofs.lemmas.Bool.{and_left, and_right, cond-false}
use Rattle.theory.specs.Octets.{AllOctets, bit}
use Rattle.theory.specs.Formats.{Part}
use Rattle.theory.specs.Pictures.{Picture, inside, with_samples}
use Rattle.theory.specs.Groups.{group_of}
use Rattle.theory.specs.Taking.{taken, names, sets, reads, picture_after, map_after}
use Rattle.theory.proofs.Bits.{bits_same, bits_whole}
use Rattle.theory.proofs.Tests.{or_false}

module _ (t : Part) (v : Picture) (m q : List ℕ) (octets : AllOctets m) (refused : taken t v m q ≡ false) where
  sets_none : (g : ℕ) → sets t v m q g ≡ false
  sets_none g = and_left (taken t v m q && names t q g) (not (bit m g)) (and_left (taken t v m q) (names t q g) refused)

  pub unchanged : (picture_after t v m q ≡ v) × (map_after t v m q ≡ m)
  unchanged = (
    ap (with_samples v) (fun_ext (λ p. fun_ext (λ r. fun_ext (λ c.
        cond-false (inside v p r c && sets t v m q (group_of t p r c)) (reads t q p r c) (v.sample p r c)
        (and_right (inside v p r c) _ (sets_none (group_of t p r c))))))),
    bits_same (λ k. bit m k || sets t v m q k) (bit m) (length m) (λ k _. ap (λ b. bit m k || b) (sets_none k) ∙ or_false (bit m k))
        ∙ bits_whole m octets,
  )

-- A group built and taken apart, and the samples of a picture's group in its octets.
use Rattle.std.proofs.Common.{◌≡◌, ℕ, ◌^◌, ◌<◌, length, get_or, sym, ap, ◌∙◌, subst, arith}
use Rattle.std.specs.Int.Digits.{number_from_digits}
use Rattle.std.proofs.lemmas.List.FromFn.{length-map-range_with_len, get_or-map-range_with_len}
use Rattle.std.proofs.ByRecursion.{All-from_get_or}
use Rattle.theory.specs.Layouts.{Kind, Layout, LawfulKind, LawfulLayout}
use Rattle.theory.specs.Formats.{Part, layout_of}
use Rattle.theory.specs.Pictures.{Picture, LawfulPicture}
use Rattle.theory.specs.Groups.{octets_of_samples, value_at, RoundTrip, sample_at, group_samples, group_octets}
use Rattle.theory.proofs.Digits.{length_digits, digits_at, digits_under, there_and_back}

pub round_trip : (k : Kind) (depth : ℕ) → LawfulLayout k depth → RoundTrip (k.layout depth) depth
round_trip k depth w =
    let l : Layout = k.layout depth in
    record {
      samples_back = λ xs whole under i h.
          sym (digits_at depth l.positions (number_from_digits 256 (octets_of_samples l depth xs)) i h)
          ∙ ap (λ ys. get_or ys i 0) (there_and_back 8 depth l.octets l.positions xs w.bits whole under);
      octets_back = λ os whole under. there_and_back depth 8 l.positions l.octets os (sym w.bits) whole under;
      octets_built = λ xs. (length_digits 8 l.octets (number_from_digits (2 ^ depth) xs), digits_under 8 l.octets (number_from_digits (2 ^ depth) xs));
      samples_apart = λ os. (length_digits depth l.positions (number_from_digits 256 os), digits_under depth l.positions (number_from_digits 256 os));
    }

pub groups_round_trip : (k : Kind) → LawfulKind k → (depth : ℕ) → 0 < (k.layout depth).octets → RoundTrip (k.layout depth) depth
groups_round_trip k w depth h = round_trip k depth (w.at_depth depth h)

-- the value at position k of the group's octets is the sample there
pub value_of_group : (t : Part) (v : Picture) (g k : ℕ) → LawfulLayout t.format.kind t.format.depth → LawfulPicture v
    → v.depth ≡ t.format.depth → k < (layout_of t.format).positions
    → value_at (layout_of t.format) t.format.depth (group_octets t v g) k ≡ sample_at t v g k
value_of_group t v g k w lv e h =
    let n = (layout_of t.format).positions in
    let d = t.format.depth in
    let xs = group_samples t v g in
    let size = length-map-range_with_len (sample_at t v g) 0 n in
    let at : (i : ℕ) → i < n → get_or xs i 0 ≡ sample_at t v g i = λ i l. get_or-map-range_with_len (sample_at t v g) 0 n i i 0 l (omega arith) in
    let small : (i : ℕ) → i < length xs → get_or xs i 0 < 2 ^ d = λ i l. rw (at i (omega (arith, size)))
    (subst (λ x. sample_at t v g i < 2 ^ x) e (lv.below _ _ _)) in
    (round_trip t.format.kind d w).samples_back xs size (All-from_get_or (λ x. x < 2 ^ d) xs 0 small) k h ∙ at k h

-- If every two taken packets agree, their order and repeats do not matter.
use Rattle.std.proofs.Common.{◌≡◌, ℕ, Bool, true, false, cond, ◌||◌, List, length, sym, refl, ap, ◌∙◌}
use mathlib.Core.Path.{fun_ext}
use mathlib.Core.List.{Memᴰ}
use Rattle.theory.specs.Octets.{bit}
use Rattle.theory.specs.Formats.{Part, layout_of}
use Rattle.theory.specs.Pictures.{Picture, inside, with_samples}
use Rattle.theory.specs.Groups.{group_of, position_in_group, value_at}
use Rattle.theory.specs.Taking.{count_answer, opened_map}
use Rattle.theory.specs.Runs.{Event, Start, Reached, packets_taken, earliest, some_names, sample_from, Agree, SamePackets}
use Rattle.theory.proofs.Bits.{bits_same}
use Rattle.theory.proofs.Named.{Found, found, not_found, named_same}
use Rattle.theory.proofs.Kept.{shape, bit_of, map_is, all_samples}

module _ (s : Start) (qs rs : List (List ℕ)) (same : SamePackets qs rs)
    (agree : (q r : List ℕ) → Memᴰ q qs → Memᴰ r qs → Agree s.part q r) (p i c : ℕ) where
  -- the first packets that name a group, in two lists with the same packets
  same_named : Found s.part (group_of s.part p i c) qs → Found s.part (group_of s.part p i c) rs
      → sample_from s p i c (earliest s.part (group_of s.part p i c) qs) ≡ sample_from s p i c
      (earliest s.part (group_of s.part p i c) rs)
  same_named f k =
      let t = s.part in
      ap (sample_from s p i c) f.first
      ∙ ap (λ os. value_at (layout_of t.format) t.format.depth os (position_in_group t p i c))
      (agree f.packet k.packet f.among ((same k.packet).1 k.among) (group_of t p i c) f.naming k.naming)
      ∙ ap (sample_from s p i c) (sym k.first)

  same_sample : sample_from s p i c (earliest s.part (group_of s.part p i c) qs) ≡ sample_from s p i c
      (earliest s.part (group_of s.part p i c) rs)
  same_sample = go (some_names s.part qs (group_of s.part p i c)) refl
    where
      t : Part
      t = s.part

      g : ℕ
      g = group_of t p i c

      go : (b : Bool) → some_names t qs g ≡ b → sample_from s p i c (earliest t g qs) ≡ sample_from s p i c (earliest t g rs)
      go true e = same_named (found t g qs e) (found t g rs (sym (named_same t g qs rs same) ∙ e))
      go false e = ap (sample_from s p i c) (not_found t g qs e ∙ sym (not_found t g rs (sym (named_same t g qs rs same) ∙ e)))

pub order : {s : Start} {es : List Event} {v : Picture} {m : List ℕ} → Reached s es v m
    → ((q r : List ℕ) → Memᴰ q (packets_taken es) → Memᴰ r (packets_taken es) → Agree s.part q r)
    → (fs : List Event) (w : Picture) (n : List ℕ) → Reached s fs w n → SamePackets (packets_taken es) (packets_taken fs)
    → (w ≡ v) × (n ≡ m) × (count_answer s.part n ≡ count_answer s.part m)
order {s} {es} {v} {m} re agree fs w n rf same = (
  shape rf ∙ ap (with_samples s.picture) (fun_ext (λ p. fun_ext (λ i. fun_ext (λ c. at p i c)))) ∙ sym (shape re),
  maps,
  ap (count_answer s.part) maps,
)
  where
    at : (p i c : ℕ) → w.sample p i c ≡ v.sample p i c
    at p i c =
        all_samples rf p i c
        ∙ ap (λ x. cond (inside s.picture p i c) x (s.picture.sample p i c))
        (sym (same_sample s (packets_taken es) (packets_taken fs) same agree p i c))
        ∙ sym (all_samples re p i c)

    maps : n ≡ m
    maps =
        map_is rf
        ∙ sym (bits_same (bit_of s (packets_taken es)) (bit_of s (packets_taken fs)) (length s.map)
        (λ k _. ap (λ b. b || bit (opened_map s.part s.map) k) (named_same s.part k (packets_taken es) (packets_taken fs) same)))
        ∙ sym (map_is re)

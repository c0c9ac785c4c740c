-- Groups that are put after others: what is then in picture, map and count.
use Rattle.std.proofs.Common.{◌≡◌, ℕ, ◌+◌, ◌*◌, ◌<◌, Bool, true, false, cond, not, ◌&&◌, ◌||◌, eqb, List, length, sym, refl, ap, ◌∙◌, ap₂}
use Rattle.std.proofs.lemmas.Bool.{both_ways, and_parts, eqb-true, not-true}
use Rattle.theory.specs.Octets.{AllOctets, bit, marked}
use Rattle.theory.specs.Formats.{Part, groups}
use Rattle.theory.specs.Groups.{filled, group_of}
use Rattle.theory.specs.Pictures.{Picture}
use Rattle.theory.proofs.Bits.{bits_same, bits_whole}
use Rattle.theory.proofs.Filling.{filled_none, filled_same, filled_twice}
use Rattle.theory.proofs.Maps.{marked_same, marked_twice, bit_marked}
use Rattle.theory.proofs.Named.{count_same, count_none}
use Rattle.theory.proofs.Tests.{or_false}
use Rattle.receiver.specs.Filling.{GroupsPut, clear_of}
use Rattle.receiver.proofs.Counting.{count_join, count_one}

-- w: one of the groups put before; x: one of those put now; b: the first map's bit
alike : (x y z : Bool) → (x ≡ true → y ≡ z) → (x && not y) ≡ (x && not z)
alike true y z h = ap not (h refl)
alike false y z h = refl

joined : (w x b : Bool) → ((w && not b) || (x && not (b || w))) ≡ ((x || w) && not b)
joined true true true = refl
joined true true false = refl
joined true false true = refl
joined true false false = refl
joined false true true = refl
joined false true false = refl
joined false false true = refl
joined false false false = refl

summed : (w x b : Bool) → cond ((x || w) && not b) 1 0 ≡ cond (w && not b) 1 0 + cond (x && not (b || w)) 1 0
summed true true true = refl
summed true true false = refl
summed true false true = refl
summed true false false = refl
summed false true true = refl
summed false true false = refl
summed false false true = refl
summed false false false = refl

or_swap : (x y : Bool) → (x || y) ≡ (y || x)
or_swap true true = refl
or_swap true false = refl
or_swap false true = refl
or_swap false false = refl

new_only : (b w : Bool) → (b || w) ≡ false → w ≡ false
new_only true w h = cc
new_only false w h = h

no_more : (w x b : Bool) → (x ≡ true → (b || w) ≡ true) → ((w && not b) ≡ ((x || w) && not b)) × ((b || w) ≡ (b || (x || w)))
no_more w false b h = (refl, refl)
no_more true true b h = (refl, refl)
no_more false true true h = (refl, refl)
no_more false true false h = absurd (both_ways false refl (h refl))

pub none_put : (t : Part) (v : Picture) (m : List ℕ) (w : ℕ → Bool) (f : ℕ → ℕ → ℕ) → AllOctets m → ((g : ℕ) → w g ≡ false) → GroupsPut t v m w f v m 0
none_put t v m w f octets none =
    let chosen : (g : ℕ) → clear_of m w g ≡ false = λ g. ap (λ y. y && not (bit m g)) (none g) in
    record {
      picture = filled_none t v (λ g _. clear_of m w g) f (λ g _. chosen g);
      bits = sym (bits_same (λ k. bit m k || w k) (bit m) (length m) (λ k _. ap (λ y. bit m k || y) (none k) ∙ or_false (bit m k)) ∙ bits_whole m octets);
      number = sym (count_none (groups t) (clear_of m w) (λ g _. chosen g));
    }

-- a group whose bit is clear
pub one_put : (t : Part) (v : Picture) (m : List ℕ) (n : ℕ) (f : ℕ → ℕ → ℕ) (now : Picture) (map : List ℕ) → n < groups t → bit m n ≡ false
    → now ≡ filled t v (λ g _. eqb g n) f → map ≡ marked m (λ g. eqb g n) → GroupsPut t v m (λ g. eqb g n) f now map 1
one_put t v m n f now map below clear ep em =
    let chosen : (g : ℕ) → eqb g n ≡ clear_of m (λ h. eqb h n) g =
    λ g. only (eqb g n) (bit m g) (λ e. ap (bit m) (eqb-true g n e) ∙ clear) in
    record {
      picture = ep ∙ filled_same t v (λ g _. eqb g n) (λ g _. clear_of m (λ h. eqb h n) g) f f (λ p r c _. chosen (group_of t p r c)) (λ _ _ _. refl);
      bits = em;
      number = sym (count_one (groups t) n below) ∙ count_same (groups t) (λ g. eqb g n) (clear_of m (λ h. eqb h n)) (λ g _. chosen g);
    }
  where
    only : (x b : Bool) → (x ≡ true → b ≡ false) → x ≡ (x && not b)
    only true b h = sym (ap not (h refl))
    only false b h = refl

module _ (t : Part) (v : Picture) (m : List ℕ) (w : ℕ → Bool) (f : ℕ → ℕ → ℕ) (now : Picture) (map : List ℕ) (count : ℕ)
    (before : GroupsPut t v m w f now map count) (y : ℕ → Bool) where
  -- a group whose bit is set
  pub none_more : (n : ℕ) → n < 8 * length m → bit map n ≡ true → ((g : ℕ) → y g ≡ (eqb g n || w g)) → GroupsPut t v m y f now map count
  none_more n below set all =
      let set_at : (g : ℕ) → eqb g n ≡ true → (bit m g || w g) ≡ true = λ g e.
      ap (λ h. bit m h || w h) (eqb-true g n e) ∙ sym (bit_marked m w n below) ∙ sym (ap (λ z. bit z n) before.bits) ∙ set in
      let same : (g : ℕ) → clear_of m w g ≡ clear_of m y g =
      λ g. (no_more (w g) (eqb g n) (bit m g) (set_at g)).0 ∙ ap (λ z. z && not (bit m g)) (sym (all g)) in
      record {
        picture = before.picture ∙ filled_same t v (λ g _. clear_of m w g) (λ g _. clear_of m y g) f f (λ p r c _. same (group_of t p r c)) (λ _ _ _. refl);
        bits = before.bits
            ∙ marked_same m w y (λ g _. (no_more (w g) (eqb g n) (bit m g) (set_at g)).1 ∙ ap (λ z. bit m g || z) (sym (all g)));
        number = before.number ∙ count_same (groups t) (clear_of m w) (clear_of m y) (λ g _. same g);
      }

  -- the groups x after the groups w
  pub more_put : (x : ℕ → Bool) (e : ℕ → ℕ → ℕ) (now' : Picture) (map' : List ℕ) (r : ℕ) → ((g : ℕ) → x g ≡ true → g < 8 * length m)
      → GroupsPut t now map x e now' map' r → ((g k : ℕ) → x g ≡ true → w g ≡ false → e g k ≡ f g k) → ((g : ℕ) → y g ≡ (x g || w g))
      → GroupsPut t v m y f now' map' (count + r)
  more_put x e now' map' r below more value all =
      let fresh : (g : ℕ) → clear_of map x g ≡ (x g && not (bit m g || w g)) =
      λ g. alike (x g) (bit map g) (bit m g || w g) (λ z. ap (λ n. bit n g) before.bits ∙ bit_marked m w g (below g z)) in
      let agree : (g k : ℕ) → clear_of map x g ≡ true → e g k ≡ f g k = λ g k z.
      let parts = and_parts (x g) (not (bit m g || w g)) (sym (fresh g) ∙ z) in
      value g k parts.0 (new_only (bit m g) (w g) (not-true (bit m g || w g) parts.1)) in
      record {
        picture = more.picture
            ∙ ap (λ u. filled t u (λ g _. clear_of map x g) e) before.picture
            ∙ filled_twice t v (λ g _. clear_of m w g) (λ g _. clear_of map x g) f e f agree (λ _ _ _ _. refl)
            ∙ filled_same t v (λ g _. clear_of m w g || clear_of map x g) (λ g _. clear_of m y g) f f
            (λ p r c _.
            let g = group_of t p r c in
            ap (λ z. clear_of m w g || z) (fresh g) ∙ joined (w g) (x g) (bit m g) ∙ ap (λ z. z && not (bit m g)) (sym (all g)))
            (λ _ _ _. refl);
        bits = more.bits ∙ ap (λ n. marked n x) before.bits ∙ marked_twice m w x
            ∙ marked_same m (λ g. w g || x g) y (λ g _. ap (λ z. bit m g || z) (or_swap (w g) (x g) ∙ sym (all g)));
        number = ap₂ (λ a b. a + b) before.number more.number
            ∙ sym (count_join (groups t) (clear_of m w) (clear_of map x) (clear_of m y)
            (λ g _. ap (λ z. cond (z && not (bit m g)) 1 0) (all g) ∙ summed (w g) (x g) (bit m g)
            ∙ ap (λ z. cond (clear_of m w g) 1 0 + cond z 1 0) (sym (fresh g))));
      }

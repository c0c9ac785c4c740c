-- Lists of packets that name a group: the first of them, one more at the end, and lists with the same packets.
use Rattle.std.proofs.Common.{◌≡◌, ℕ, zero, suc, ◌+◌, ◌<◌, Bool, true, false, cond, ◌&&◌, ◌||◌, ◌⊎◌, List, [], ◌∷◌, ◌++◌, Some, None, Option, sym, refl, ap, ◌∙◌, ap₂, inl, inr, arith}
use mathlib.Core.List.Memᴰ
use mathlib.Core.List.{Memᴰ}
use Rattle.std.proofs.lemmas.Bool.{both_ways, cond-false, or_right}
use Rattle.theory.specs.Octets.{count_below}
use Rattle.theory.specs.Formats.{Part}
use Rattle.theory.specs.Taking.{names}
use Rattle.theory.proofs.Tests.{same_tests, or_false, or_assoc}
use Rattle.theory.specs.Runs.{earliest, some_names, SamePackets}

-- at each number below n the same answer, so the same count
pub count_same : (n : ℕ) (f g : ℕ → Bool) → ((k : ℕ) → k < n → f k ≡ g k) → count_below n f ≡ count_below n g
count_same zero f g h = refl
count_same (suc n) f g h =
    ap₂ (λ x y. x + y) (count_same n f g (λ k l. h k (omega arith))) (ap (λ b. cond b 1 0) (h n (omega arith)))

pub count_none : (n : ℕ) (f : ℕ → Bool) → ((k : ℕ) → k < n → f k ≡ false) → count_below n f ≡ 0
count_none zero f h = refl
count_none (suc n) f h =
    let z : ◌≡◌ {A = ℕ} (cond (f n) 1 0) 0 = cond-false (f n) 1 0 (h n (omega arith)) in
    omega (arith, count_none n f (λ k l. h k (omega arith)))

first_step : (b n : Bool) (x y z : Option (List ℕ)) → cond b x (cond n y z) ≡ cond (b || n) (cond b x y) z
first_step true n x y z = refl
first_step false n x y z = refl

module _ (t : Part) (g : ℕ) where
  -- what the first is
  pub record Found (qs : List (List ℕ)) : Type 0 where
    pub packet : List ℕ
    pub among : Memᴰ packet qs
    pub naming : names t packet g ≡ true
    pub first : earliest t g qs ≡ Some packet

  pub found : (qs : List (List ℕ)) → some_names t qs g ≡ true → Found qs
  found [] h = absurd (both_ways false refl h)
  found (x ∷ xs) h = go (names t x g) refl h (found xs)
    where
      go : (b : Bool) → names t x g ≡ b → (b || some_names t xs g) ≡ true → (some_names t xs g ≡ true → Found xs) → Found (x ∷ xs)
      go true e k f = record { packet = x; among = Memᴰ.head refl; naming = e; first = ap (λ b. cond b (Some x) (earliest t g xs)) e }
      go false e k f =
          let r = f k in
          record {
            packet = r.packet;
            among = Memᴰ.tail r.among;
            naming = r.naming;
            first = ap
                (λ b. cond b (Some x) (earliest t g xs)) e ∙ r.first;
          }

  pub not_found : (qs : List (List ℕ)) → some_names t qs g ≡ false → earliest t g qs ≡ None
  not_found [] h = refl
  not_found (x ∷ xs) h = go (names t x g) refl h (not_found xs)
    where
      go : (b : Bool) → names t x g ≡ b → (b || some_names t xs g) ≡ false → (some_names t xs g ≡ false → earliest t g xs ≡ None)
          → earliest t g (x ∷ xs) ≡ None
      go true e k f = absurd (both_ways true k refl)
      go false e k f = ap (λ b. cond b (Some x) (earliest t g xs)) e ∙ f k

  names_push : (qs : List (List ℕ)) (q : List ℕ) → some_names t (qs ++ q ∷ []) g ≡ (some_names t qs g || names t q g)
  names_push [] q = or_false (names t q g)
  names_push (x ∷ xs) q = ap (λ b. names t x g || b) (names_push xs q) ∙ or_assoc (names t x g) (some_names t xs g) (names t q g)

  earliest_push : (qs : List (List ℕ)) (q : List ℕ)
      → earliest t g (qs ++ q ∷ []) ≡ cond (some_names t qs g) (earliest t g qs) (cond (names t q g) (Some q) None)
  earliest_push [] q = refl
  earliest_push (x ∷ xs) q =
      ap (λ o. cond (names t x g) (Some x) o) (earliest_push xs q)
      ∙ first_step (names t x g) (some_names t xs g) (Some x) (earliest t g xs) (cond (names t q g) (Some q) None)

  -- one packet more at the end, if b
  pub names_more : (b : Bool) (qs : List (List ℕ)) (q : List ℕ)
      → some_names t (cond b (qs ++ q ∷ []) qs) g ≡ (some_names t qs g || (b && names t q g))
  names_more true qs q = names_push qs q
  names_more false qs q = sym (or_false (some_names t qs g))

  pub earliest_more : (b : Bool) (qs : List (List ℕ)) (q : List ℕ)
      → earliest t g (cond b (qs ++ q ∷ []) qs) ≡ cond (some_names t qs g) (earliest t g qs) (cond (b && names t q g) (Some q) None)
  earliest_more true qs q = earliest_push qs q
  earliest_more false qs q = go (some_names t qs g) (not_found qs)
    where
      go : (b : Bool) → (b ≡ false → earliest t g qs ≡ None) → earliest t g qs ≡ cond b (earliest t g qs) None
      go true f = refl
      go false f = f refl

  pub named_since : (qs : List (List ℕ)) (q : List ℕ) → Memᴰ q qs → names t q g ≡ true → some_names t qs g ≡ true
  named_since [] q m h = elim m [ ]
  named_since (x ∷ xs) q m h = go (Memᴰ.cases_cons m) (λ k. named_since xs q k h)
    where
      go : (q ≡ x) ⊎ Memᴰ q xs → (Memᴰ q xs → some_names t xs g ≡ true) → some_names t (x ∷ xs) g ≡ true
      go (inl e) f = ap (λ b. b || some_names t xs g) (ap (λ y. names t y g) (sym e) ∙ h)
      go (inr k) f = or_right (names t x g) (some_names t xs g) (f k)

  named_both : (qs rs : List (List ℕ)) → ((q : List ℕ) → Memᴰ q qs → Memᴰ q rs) → some_names t qs g ≡ true
      → some_names t rs g ≡ true
  named_both qs rs h e = let f = found qs e in named_since rs f.packet (h f.packet f.among) f.naming

  -- the same packets name the same groups
  pub named_same : (qs rs : List (List ℕ)) → SamePackets qs rs → some_names t qs g ≡ some_names t rs g
  named_same qs rs h = same_tests (some_names t qs g) (some_names t rs g) (named_both qs rs (λ q. (h q).0)) (named_both rs qs (λ q. (h q).1))

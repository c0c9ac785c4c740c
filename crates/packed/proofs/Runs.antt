-- One sample put: read again it is the value, every other sample is as it was, and so is every bit that is no sample's.
use Rattle.std.proofs.Common.{◌≡◌, ℕ, zero, suc, ◌+◌, ◌-◌, ◌/◌, ◌%◌, ◌^◌, ◌<◌, ◌≤◌, true, false, cond, not, ◌&&◌, eqb, ltb, leb, List, [], ◌∷◌, None, sym, ap, ◌∙◌, ap₂, inl, inr, div-one, arith}
use mathlib.Core.Path.{fun_ext}
use native.Mathlib.Nat.{div-eq_of_lt}
use Rattle.std.proofs.lemmas.Nat.{shr-shr}
use Rattle.std.proofs.lemmas.Bool.{cases_Bool, cond-true, cond-false, and_parts, and_from, both_ways, ltb-true, leb-true, leb-false, eqb-true, lt-ltb, le-leb, not_from_true}
use Rattle.std.proofs.lemmas.Bool.Decides.{nat_tests}
use Rattle.theory.specs.Answers.{first_row, is_none}
use Rattle.theory.specs.Pictures.{inside, put, put_refusal, put_after, with_samples}
use Rattle.packed.specs.declared.grid.Grid.{Grid}
use Rattle.packed.specs.BitRuns.{bit_at, run_at, bit_after}
use Rattle.packed.proofs.Samples.{same_run}
use Rattle.packed.specs.Grids.{width_at, height_at, first_bit, grid_picture, bit_plane, bit_row, bit_column, is_for, grid_beside, bit_left, Owned}

-- a run that was put, read from its first bits on
put_front : (m l : List ℕ) (b n x j : ℕ) → x < 2 ^ n → ((k : ℕ) → bit_at l k ≡ bit_after m b n x k) → j ≤ n → run_at l b j ≡ x / 2 ^ (n - j)
put_front m l b n x zero hx h k =
    let e : n - 0 ≡ n = omega arith in
    sym (ap (λ z. x / 2 ^ z) e ∙ div-eq_of_lt hx)
put_front m l b n x (suc j) hx h k =
    let y = x / 2 ^ (n - suc j) in
    let e : n - suc j + 1 ≡ n - j = omega arith in
    let f : b + n - 1 - (b + j) ≡ n - suc j = omega arith in
    let front : run_at l b j ≡ y / 2 ^ 1 = put_front m l b n x j hx h (omega arith) ∙ ap (λ z. x / 2 ^ z) (sym e) ∙ sym (shr-shr x (n - suc j) 1) in
    let last : bit_at l (b + j) ≡ y % 2 =
    h (b + j)
    ∙ cond-true (leb b (b + j) && ltb (b + j) (b + n)) (x / 2 ^ (b + n - 1 - (b + j)) % 2) (bit_at m (b + j)) (and_from (leb b (b + j)) (ltb (b + j) (b + n)) (le-leb b (b + j) (omega arith)) (lt-ltb (b + j) (b + n) (omega arith)))
    ∙ ap (λ z. x / 2 ^ z % 2) f in
    omega (arith, front, last)

put_whole : (m l : List ℕ) (b n x : ℕ) → x < 2 ^ n → ((k : ℕ) → bit_at l k ≡ bit_after m b n x k) → run_at l b n ≡ x
put_whole m l b n x hx h =
    let e : n - n ≡ 0 = omega arith in
    put_front m l b n x n hx h (omega arith) ∙ ap (λ z. x / 2 ^ z) e ∙ div-one x

-- one place, told by two tests, and what holds of it
same_place : (a b c p r d q s e : ℕ) → (eqb a p && eqb b r && eqb c d) ≡ true → (eqb a q && eqb b s && eqb c e) ≡ true
    → (eqb q p && eqb s r && eqb e d) ≡ true
same_place a b c p r d q s e x y = grind (arith, nat_tests)

moved : {A : Type 0} (F : ℕ → ℕ → ℕ → A) (a b c p r d : ℕ) → (eqb a p && eqb b r && eqb c d) ≡ true → F a b c ≡ F p r d
moved F a b c p r d e =
    let left = and_parts (eqb a p && eqb b r) (eqb c d) e in
    let parts = and_parts (eqb a p) (eqb b r) left.0 in
    let x : a ≡ p = eqb-true a p parts.0 in
    let y : b ≡ r = eqb-true b r parts.1 in
    let z : c ≡ d = eqb-true c d left.1 in
    cc

module _ (g : Grid) (owned : Owned g) (m l : List ℕ) (p r c x : ℕ) (hr : r < height_at g p) (hc : c < width_at g p)
    (bits : (k : ℕ) → bit_at l k ≡ bit_after m (first_bit g p r c) g.depth x k) where
  -- a bit that is not for this place stays
  other_bit : (k : ℕ) → (is_for g p r c k ≡ true → ⊥) → bit_at l k ≡ bit_at m k
  other_bit k other =
      let b = first_bit g p r c in
      let hit = leb b k && ltb k (b + g.depth) in
      bits k
      ∙ elim (cases_Bool hit) [
        | inl e ↦
            let parts = and_parts (leb b k) (ltb k (b + g.depth)) e in
            absurd (other (owned (p, r, c) k (hr, hc, leb-true b k parts.0, ltb-true k (b + g.depth) parts.1)))
        | inr e ↦ cond-false hit (x / 2 ^ (b + g.depth - 1 - k) % 2) (bit_at m k) e
      ]

  other_run : (q s d : ℕ) → s < height_at g q → d < width_at g q → (eqb q p && eqb s r && eqb d c) ≡ false
      → run_at l (first_bit g q s d) g.depth ≡ run_at m (first_bit g q s d) g.depth
  other_run q s d hs hd e =
      let b = first_bit g q s d in
      same_run m l b b g.depth (λ j h.
      let k = b + j in
      other_bit k (λ f. both_ways (eqb q p && eqb s r && eqb d c) e (same_place (bit_plane g k) (bit_row g k) (bit_column g k) p r c q s d f
      (owned (q, s, d) k (hs, hd, omega arith, omega arith)))))

  put_sample : x < 2 ^ g.depth → (q s d : ℕ) → (grid_picture g l).sample q s d ≡ (put (grid_picture g m) p r c x).sample q s d
  put_sample hx q s d =
      let new = (grid_picture g l).sample in
      let old = (grid_picture g m).sample in
      let same = eqb q p && eqb s r && eqb d c in
      let within = ltb s (height_at g q) && ltb d (width_at g q) in
      elim (cases_Bool same) [
        | inl e ↦
            moved new q s d p r c e
            ∙ cond-true (ltb r (height_at g p) && ltb c (width_at g p)) (run_at l (first_bit g p r c) g.depth) 0
            (and_from (ltb r (height_at g p)) (ltb c (width_at g p)) (lt-ltb r (height_at g p) hr) (lt-ltb c (width_at g p) hc))
            ∙ put_whole m l (first_bit g p r c) g.depth x hx bits
            ∙ sym (cond-true same x (old q s d) e)
        | inr e ↦ elim (cases_Bool within) [
          | inl f ↦
              let parts = and_parts (ltb s (height_at g q)) (ltb d (width_at g q)) f in
              ap (λ n. cond within n 0) (other_run q s d (ltb-true s (height_at g q) parts.0) (ltb-true d (width_at g q) parts.1) e)
              ∙ sym (cond-false same x (old q s d) e)
          | inr f ↦
              cond-false within (run_at l (first_bit g q s d) g.depth) 0 f
              ∙ sym (cond-false within (run_at m (first_bit g q s d) g.depth) 0 f)
              ∙ sym (cond-false same x (old q s d) e)
        ]
      ]

  put_picture : x < 2 ^ g.depth → grid_picture g l ≡ put (grid_picture g m) p r c x
  put_picture hx = ap (with_samples (grid_picture g m)) (fun_ext (λ q. fun_ext (λ s. fun_ext (λ d. put_sample hx q s d))))

  -- a bit that is for this place is a sample's
  taken_bit : (k : ℕ) → is_for g p r c k ≡ true
      → not (ltb (bit_row g k) (height_at g (bit_plane g k)) && ltb (bit_column g k) (width_at g (bit_plane g k))) ≡ false
  taken_bit k e =
      moved (λ q s d. not (ltb s (height_at g q) && ltb d (width_at g q))) (bit_plane g k) (bit_row g k) (bit_column g k) p r c e
      ∙ not_from_true (ltb r (height_at g p) && ltb c (width_at g p))
      (and_from (ltb r (height_at g p)) (ltb c (width_at g p)) (lt-ltb r (height_at g p) hr) (lt-ltb c (width_at g p) hc))

  put_beside : grid_beside g l ≡ grid_beside g m
  put_beside = fun_ext (λ k.
      let here = is_for g p r c k in
      let free = not (ltb (bit_row g k) (height_at g (bit_plane g k)) && ltb (bit_column g k) (width_at g (bit_plane g k))) in
      elim (cases_Bool here) [
        | inl e ↦ cond-false free (bit_at l k) 0 (taken_bit k e) ∙ sym (cond-false free (bit_at m k) 0 (taken_bit k e))
        | inr e ↦ ap (λ z. cond free z 0) (other_bit k (both_ways here e))
      ])

-- what a value leaves that was written to the run of a place inside
pub put_done : (g : Grid) (m l : List ℕ) (p r c x b n : ℕ) → Owned g → inside (grid_picture g m) p r c ≡ true → leb (2 ^ n) x ≡ false
    → (b ≡ first_bit g p r c) × (n ≡ g.depth) → ((k : ℕ) → bit_at l k ≡ bit_after m b n x k)
    → (grid_picture g l ≡ put_after (grid_picture g m) p r c x) × (grid_beside g l ≡ grid_beside g m)
    × ((k : ℕ) → bit_at l k ≡ bit_left g m p r c x k)
put_done g m l p r c x b n owned within fits is bits =
    let v = grid_picture g m in
    let small : leb (2 ^ g.depth) x ≡ false = ap (λ d. leb (2 ^ d) x) (sym is.1) ∙ fits in
    let parts = and_parts (ltb r (height_at g p)) (ltb c (width_at g p)) within in
    let hr = ltb-true r (height_at g p) parts.0 in
    let hc = ltb-true c (width_at g p) parts.1 in
    let taken : put_refusal v p r c x ≡ None = λ i. first_row ((not (within i), 1) ∷ (small i, 2) ∷ []) in
    let here : (k : ℕ) → bit_at l k ≡ bit_after m (first_bit g p r c) g.depth x k = λ k. bits k ∙ ap₂ (λ a d. bit_after m a d x k) is.0 is.1 in (
      put_picture g owned m l p r c x hr hc here (leb-false (2 ^ g.depth) x small) ∙ sym (ap (λ o. cond (is_none o) (put v p r c x) v) taken),
      put_beside g owned m l p r c x hr hc here,
      λ k. here k ∙ sym (ap (λ o. cond (is_none o) (bit_after m (first_bit g p r c) g.depth x k) (bit_at m k)) taken),
    )

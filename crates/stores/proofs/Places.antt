-- Words and places: a place's word lies in the memory, two places have two words, and writing a word is a put.
use Rattle.std.proofs.Common.{◌≡◌, ℕ, zero, suc, ◌+◌, ◌-◌, ◌*◌, ◌/◌, ◌%◌, ◌^◌, ◌<◌, ◌≤◌, true, cond, ◌&&◌, eqb, ltb, ◌≢◌, List, length, get_or, set, sym, ap, ◌∙◌, subst, inl, inr, mod-eq_of_lt, arith, get_or-set_other, get_or-set_same}
use mathlib.Core.Path.{fun_ext}
use Rattle.std.proofs.lemmas.Nat.{mul-le, mul-add-lt, div-mul-add, mod-mul-add}
use Rattle.std.proofs.lemmas.Bool.{cases_lt, cases_eq, cases_order, cases_Bool, ltb-true, eqb-true, eq-eqb, and_parts, and_from, both_ways, cond-true, cond-false}
use Rattle.theory.specs.Pictures.{Picture, inside, put, with_samples}
use Rattle.stores.specs.Words.{plane_start, word_at, in_words}

moved : (f : ℕ → ℕ → ℕ → ℕ) (q t d p r c : ℕ) → q ≡ p → t ≡ r → d ≡ c → f q t d ≡ f p r c
moved f q t d p r c x y z = cc

module _ (w h : ℕ → ℕ) where
  -- the planes stand one behind the other
  pub planes_apart : (p q : ℕ) → p < q → plane_start w h p + w p * h p ≤ plane_start w h q
  planes_apart p zero k = omega arith
  planes_apart p (suc q) k = elim (cases_eq p q) [
    | inl e ↦ let P : ℕ → Type 0 = λ n. plane_start w h n + w n * h n ≤ plane_start w h q + w q * h q in subst P (sym e) (omega arith)
    | inr n ↦ let before : plane_start w h p + w p * h p ≤ plane_start w h q = planes_apart p q (omega arith) in omega arith
  ]

  -- the words of n columns of a row are in its plane, and so in front of every later one
  pub run_before : (p q r c n : ℕ) → p < q → r < h p → c + n ≤ w p → plane_start w h p + r * w p + c + n ≤ plane_start w h q
  run_before p q r c n k x y = elim (cases_lt 0 (c + n)) [
    | inl some ↦ omega (arith, mul-add-lt r (w p) (c + n - 1) (h p) x (omega arith), planes_apart p q k)
    | inr none ↦ omega (arith, mul-le r (w p) (h p) (w p) (omega arith) (omega arith), planes_apart p q k)
  ]

  word_before : (p q r c : ℕ) → p < q → r < h p → c < w p → plane_start w h p + r * w p + c < plane_start w h q
  word_before p q r c k x y = omega (arith, run_before p q r c 1 k x (omega arith))

  same_place : (p r c t d : ℕ) → c < w p → d < w p → plane_start w h p + r * w p + c ≡ plane_start w h p + t * w p + d → (r ≡ t) × (c ≡ d)
  same_place p r c t d x y e =
      let same : r * w p + c ≡ t * w p + d = omega arith in (
        sym (div-mul-add r (w p) c x) ∙ ap (λ n. n / w p) same ∙ div-mul-add t (w p) d y,
        sym (mod-mul-add r (w p) c x) ∙ ap (λ n. n % w p) same ∙ mod-mul-add t (w p) d y,
      )

  -- two places have two words
  pub word_once : (p r c q t d : ℕ) → r < h p → c < w p → t < h q → d < w q
      → plane_start w h p + r * w p + c ≡ plane_start w h q + t * w q + d → (p ≡ q) × (r ≡ t) × (c ≡ d)
  word_once p r c q t d hr hc ht hd e =
      elim (cases_order p q) [
        | inl same ↦
            let P : ℕ → Type 0 = λ z. d < w z in
            let Q : ℕ → Type 0 = λ z. plane_start w h p + r * w p + c ≡ plane_start w h z + t * w z + d in
            let both = same_place p r c t d hc (subst P (sym same) hd) (subst Q (sym same) e) in
            (same, both.0, both.1)
        | inr (inl less) ↦ absurd (omega (arith, word_before p q r c less hr hc))
        | inr (inr more) ↦ absurd (omega (arith, word_before q p t d more ht hd))
      ]

-- a word below the limit, once written, is the sample there, and every other sample stays
module _ (v : Picture) (ws : List ℕ) (p r c x : ℕ) (within : word_at v p r c < length ws) (place : inside v p r c ≡ true) (small : x < 2 ^ v.depth) where
  put_sample : (q t d : ℕ) → (in_words v (set ws (word_at v p r c) x)).sample q t d ≡ (put (in_words v ws) p r c x).sample q t d
  put_sample q t d =
      let i = word_at v p r c in
      let new = (in_words v (set ws i x)).sample in
      let old = (in_words v ws).sample in
      let same = eqb q p && eqb t r && eqb d c in
      elim (cases_Bool same) [
        | inl e ↦
            let left = and_parts (eqb q p && eqb t r) (eqb d c) e in
            let parts = and_parts (eqb q p) (eqb t r) left.0 in
            moved new q t d p r c (eqb-true q p parts.0) (eqb-true t r parts.1) (eqb-true d c left.1)
            ∙ cond-true (inside v p r c) (get_or (set ws i x) i 0 % 2 ^ v.depth) 0 place
            ∙ ap (λ n. n % 2 ^ v.depth) (get_or-set_same ws i x 0 within)
            ∙ mod-eq_of_lt small
            ∙ sym (cond-true same x (old q t d) e)
        | inr e ↦
            elim (cases_Bool (inside v q t d)) [
              | inl f ↦
                  let there = and_parts (ltb t (v.height q)) (ltb d (v.width q)) f in
                  let here = and_parts (ltb r (v.height p)) (ltb c (v.width p)) place in
                  let other : word_at v q t d ≢ i = λ k.
                  let three =
                  word_once v.width v.height q t d p r c
                  (ltb-true t (v.height q) there.0) (ltb-true d (v.width q) there.1)
                  (ltb-true r (v.height p) here.0) (ltb-true c (v.width p) here.1) k in
                  both_ways same e (and_from (eqb q p && eqb t r) (eqb d c) (and_from (eqb q p) (eqb t r) (eq-eqb q p three.0) (eq-eqb t r three.1)) (eq-eqb d c three.2)) in
                  ap (λ n. cond (inside v q t d) (n % 2 ^ v.depth) 0) (get_or-set_other ws i (word_at v q t d) x 0 other)
                  ∙ sym (cond-false same x (old q t d) e)
              | inr f ↦
                  cond-false (inside v q t d) (get_or (set ws i x) (word_at v q t d) 0 % 2 ^ v.depth) 0 f
                  ∙ sym (cond-false (inside v q t d) (get_or ws (word_at v q t d) 0 % 2 ^ v.depth) 0 f)
                  ∙ sym (cond-false same x (old q t d) e)
            ]
      ]

  pub put_word : in_words v (set ws (word_at v p r c) x) ≡ put (in_words v ws) p r c x
  put_word = ap (with_samples v) (fun_ext (λ q. fun_ext (λ t. fun_ext (λ d. put_sample q t d))))

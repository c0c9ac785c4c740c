-- Samples of one row, from a column on: values that fit, samples put one after another, and the words that they are put in.
use Rattle.std.proofs.Common.{◌≡◌, ℕ, zero, suc, ◌+◌, ◌-◌, ◌%◌, ◌^◌, ◌<◌, ◌≤◌, Bool, true, false, cond, not, ◌&&◌, eqb, ltb, leb, List, [], ◌∷◌, map, length, get_or, take, set, None, Err, sym, refl, ap, ◌∙◌, inl, inr, add-one, arith}
use mathlib.Core.Path.{fun_ext}
use lib.Bits.{bit_and}
use lib.Seq.{paste}
use Rattle.std.specs.List.{fold, list_all, range_with_len, between}
use Rattle.std.proofs.lemmas.Nat.{and_mask}
use Rattle.std.proofs.Math.Bool.{and_comm}
use Rattle.std.proofs.lemmas.List.FromFn.{fill_by_all}
use Rattle.std.proofs.lemmas.List.Folds.{list_all_more}
use Rattle.std.proofs.lemmas.List.{length-take-le, get_or-take, take_all}
use Rattle.std.proofs.lemmas.List.Edits.{paste_none, paste_more, length-paste, get_or-between}
use Rattle.std.proofs.lemmas.Bool.{cases_lt, cases_eq, ltb-true, leb-true, lt-ltb, le-ltb, le-leb, lt-leb, and_parts, and_from, cond-true}
use Rattle.std.proofs.lemmas.Bool.Decides.{nat_tests}
use Rattle.theory.specs.Octets.{all_below}
use Rattle.theory.specs.Answers.{first_row, is_none, verdict}
use Rattle.theory.specs.Pictures.{Picture, inside, with_samples, put, put_refusal, put_answer, put_after, columns_inside, put_row, put_row_refusal, put_row_after}
use Rattle.theory.proofs.Searches.{all_below_at}
use Rattle.stores.specs.Words.{word_at, in_words}
use Rattle.stores.proofs.Places.{put_word}
use Rattle.stores.proofs.Puts.{put_taken}

-- to fold a test over values is to ask whether all pass it, and so is to ask it of each index
module _ (p : ℕ → Bool) where
  folded : (b : Bool) (xs : List ℕ) → fold (λ fit x. fit && p x) b xs ≡ (b && list_all p xs)
  folded true [] = refl
  folded false [] = refl
  folded true (x ∷ xs) = folded (p x) xs
  folded false (x ∷ xs) = folded false xs

  listed : (xs : List ℕ) (i : ℕ) → i ≤ length xs → list_all p (take i xs) ≡ all_below i (λ k. p (get_or xs k 0))
  listed xs zero h = refl
  listed xs (suc i) h =
      ap (λ n. list_all p (take n xs)) (sym (add-one i))
      ∙ list_all_more p xs i 0 (omega arith)
      ∙ ap (λ b. b && p (get_or xs i 0)) (listed xs i (omega arith))
      ∙ and_comm (all_below i (λ k. p (get_or xs k 0))) (p (get_or xs i 0))

  pub all_folded : (xs : List ℕ) → fold (λ fit x. fit && p x) true xs ≡ all_below (length xs) (λ k. p (get_or xs k 0))
  all_folded xs = folded true xs ∙ ap (list_all p) (sym (take_all (length xs) xs (omega arith))) ∙ listed xs (length xs) (omega arith)

-- at most the largest value is below the limit
pub largest_below : (limit : ℕ) → 0 < limit → ◌≡◌ {A = ℕ → Bool} (λ x. leb x (limit - 1)) (λ x. ltb x limit)
largest_below limit positive = fun_ext (λ x. elim (cases_lt x limit) [
  | inl h ↦ le-leb x (limit - 1) (omega arith) ∙ sym (lt-ltb x limit h)
  | inr h ↦ lt-leb x (limit - 1) (omega arith) ∙ sym (le-ltb x limit h)
])

-- what a row holds at column d, once values stand there from column c on
module _ (old c d : ℕ) where
  abbrev run : List ℕ → ℕ
  run xs = cond (leb c d && ltb d (c + length xs)) (get_or xs (d - c) 0) old

  run_none : run [] ≡ old
  run_none = elim (cases_lt d c) [ inl before ↦ grind (arith, nat_tests) | inr past ↦ grind (arith, nat_tests) ]

  run_more : (xs : List ℕ) (i : ℕ) → i < length xs → cond (eqb d (c + i)) (get_or xs i 0) (run (take i xs)) ≡ run (take (i + 1) xs)
  run_more xs i h =
      let front = length-take-le i xs (omega arith) in
      let more = length-take-le (i + 1) xs (omega arith) in
      elim (cases_lt d (c + i)) [
        | inl less ↦ elim (cases_lt d c) [
          | inl before ↦ grind (arith, nat_tests)
          | inr from ↦ let read = get_or-take i xs (d - c) 0 (omega arith) in let again = get_or-take (i + 1) xs (d - c) 0 (omega arith) in grind (arith, nat_tests)
        ]
        | inr more_or_same ↦ elim (cases_eq d (c + i)) [
          | inl e ↦ let same : i ≡ d - c = omega arith in let again = get_or-take (i + 1) xs (d - c) 0 (omega arith) in grind (arith, nat_tests)
          | inr past ↦ grind (arith, nat_tests)
        ]
      ]

module _ (v : Picture) (p r c : ℕ) where
  pub put_row_none : put_row v p r c [] ≡ v
  put_row_none = ap (with_samples v) (fun_ext (λ q. fun_ext (λ s. fun_ext (λ d. by (eqb q p && eqb s r) (v.sample q s d) d))))
    where
      by : (here : Bool) (old d : ℕ) → cond (here && leb c d && ltb d (c + 0)) (get_or [] (d - c) 0) old ≡ old
      by true old d = run_none old c d
      by false old d = refl

  pub put_row_more : (xs : List ℕ) (i : ℕ) → i < length xs → put (put_row v p r c (take i xs)) p r (c + i) (get_or xs i 0) ≡ put_row v p r c (take (i + 1) xs)
  put_row_more xs i h = ap (with_samples v) (fun_ext (λ q. fun_ext (λ s. fun_ext (λ d. by (eqb q p && eqb s r) (v.sample q s d) d))))
    where
      by : (here : Bool) (old d : ℕ)
          → cond (here && eqb d (c + i)) (get_or xs i 0) (cond (here && leb c d && ltb d (c + length (take i xs))) (get_or (take i xs) (d - c) 0) old)
          ≡ cond (here && leb c d && ltb d (c + length (take (i + 1) xs))) (get_or (take (i + 1) xs) (d - c) 0) old
      by true old d = run_more old c d xs i h
      by false old d = refl

  pub columns_told : (n height width : ℕ) → height ≡ v.height p → width ≡ v.width p → true ≡ (ltb r height && leb (c + n) width)
      → columns_inside v p r c n ≡ true
  columns_told n height width x y e = cc

  -- a column among those inside is inside
  pub column_inside : (n i : ℕ) → columns_inside v p r c n ≡ true → i < n → inside v p r (c + i) ≡ true
  column_inside n i fits h =
      let both = and_parts (ltb r (v.height p)) (leb (c + n) (v.width p)) fits in
      and_from (ltb r (v.height p)) (ltb (c + i) (v.width p)) both.0 (lt-ltb (c + i) (v.width p) (omega (arith, leb-true (c + n) (v.width p) both.1)))

  rows : (a b : Bool) → a ≡ true → b ≡ true → first_row ((not a, 1) ∷ (not b, 2) ∷ []) ≡ None
  rows a b x y = cc

  -- putting a row that is not refused is to put its samples one after another
  module _ (xs : List ℕ) (fits : columns_inside v p r c (length xs) ≡ true) (below : all_below (length xs) (λ i. ltb (get_or xs i 0) (2 ^ v.depth)) ≡ true) where
    pub row_taken : put_row_refusal v p r c xs ≡ None
    row_taken = rows (columns_inside v p r c (length xs)) (all_below (length xs) (λ i. ltb (get_or xs i 0) (2 ^ v.depth))) fits below

    pub value_below : (i : ℕ) → i < length xs → get_or xs i 0 < 2 ^ v.depth
    value_below i h = ltb-true (get_or xs i 0) (2 ^ v.depth) (all_below_at (λ k. ltb (get_or xs k 0) (2 ^ v.depth)) (length xs) below i h)

    pub step_taken : (i : ℕ) → i < length xs → put_refusal (put_row v p r c (take i xs)) p r (c + i) (get_or xs i 0) ≡ None
    step_taken i h = put_taken (put_row v p r c (take i xs)) p r (c + i) (get_or xs i 0) (column_inside (length xs) i fits h) (value_below i h)

    pub step_after : (i : ℕ) → i < length xs → put_after (put_row v p r c (take i xs)) p r (c + i) (get_or xs i 0) ≡ put_row v p r c (take (i + 1) xs)
    step_after i h =
        let u = put_row v p r c (take i xs) in
        ap (λ o. cond (is_none o) (put u p r (c + i) (get_or xs i 0)) u) (step_taken i h) ∙ put_row_more xs i h

    pub step_never_refused : (i e : ℕ) (u : Picture) → i < length xs → u ≡ put_row v p r c (take i xs) → Err e ≡ put_answer u p r (c + i) (get_or xs i 0) → ⊥
    step_never_refused i e u h same refused =
        let ok = refused ∙ ap (λ u. put_answer u p r (c + i) (get_or xs i 0)) same ∙ ap verdict (step_taken i h) in
        let z : ◌≡◌ {A = ℕ} 0 1 = cc in omega arith

    pub row_after : (n : ℕ) → length xs ≤ n → put_row v p r c (take n xs) ≡ put_row_after v p r c xs
    row_after n h =
        ap (put_row v p r c) (take_all n xs h) ∙ sym (ap (λ o. cond (is_none o) (put_row v p r c xs) v) row_taken)

-- values below the limit, once written in the words of a row, are its samples there
module _ (v : Picture) (ws : List ℕ) (p r c : ℕ) (xs : List ℕ)
    (within : word_at v p r c + length xs ≤ length ws)
    (fits : columns_inside v p r c (length xs) ≡ true)
    (below : all_below (length xs) (λ i. ltb (get_or xs i 0) (2 ^ v.depth)) ≡ true) where
  abbrev written : ℕ → List ℕ
  written i = paste ws (word_at v p r c) xs i

  written_more : (i : ℕ) → i < length xs → in_words v (written i) ≡ put_row (in_words v ws) p r c (take i xs)
      → in_words v (written (i + 1)) ≡ put_row (in_words v ws) p r c (take (i + 1) xs)
  written_more i h e =
      let at = word_at v p r c in
      let x = get_or xs i 0 in
      let long = length-paste ws at xs i (omega arith) (omega arith) in
      let here : at + i ≡ word_at v p r (c + i) = omega arith in
      ap (in_words v) (sym (paste_more ws at xs i 0 (omega arith) h))
      ∙ ap (λ n. in_words v (set (written i) n x)) here
      ∙ put_word v (written i) p r (c + i) x (omega arith) (column_inside v p r c (length xs) i fits h) (value_below v p r c xs fits below i h)
      ∙ ap (λ u. put u p r (c + i) x) e
      ∙ put_row_more (in_words v ws) p r c xs i h

  put_words : (i : ℕ) → i ≤ length xs → in_words v (written i) ≡ put_row (in_words v ws) p r c (take i xs)
  put_words zero h = ap (in_words v) (sym (paste_none ws (word_at v p r c) xs)) ∙ sym (put_row_none (in_words v ws) p r c)
  put_words (suc i) h =
      ap (λ n. in_words v (written n)) (sym (add-one i))
      ∙ written_more i h (put_words i (omega arith))
      ∙ ap (λ n. put_row (in_words v ws) p r c (take n xs)) (add-one i)

  pub row_written : (at : ℕ) → at ≡ word_at v p r c → in_words v (paste ws at xs (length xs)) ≡ put_row_after (in_words v ws) p r c xs
  row_written at here =
      ap (λ m. in_words v (paste ws m xs (length xs))) here
      ∙ put_words (length xs) (omega arith)
      ∙ row_after (in_words v ws) p r c xs fits below (length xs) (omega arith)

-- words under the mask of the depth are the samples of the row
pub words_shown : (v : Picture) (ws : List ℕ) (p r c n at mask : ℕ) (ys : List ℕ) → columns_inside v p r c n ≡ true → at ≡ word_at v p r c → mask ≡ 2 ^ v.depth - 1
    → length ys ≡ n → ((k : ℕ) → k < n → get_or ys k 0 ≡ bit_and (get_or (between at (at + n) ws) k 0) mask)
    → ys ≡ map (λ i. (in_words v ws).sample p r (c + i)) (range_with_len 0 n)
words_shown v ws p r c n at mask ys fits here low long each =
    fill_by_all (λ i. (in_words v ws).sample p r (c + i)) ys n 0 long (λ k h.
    let place : at + k ≡ word_at v p r (c + k) = omega arith in
    each k h
    ∙ ap (bit_and (get_or (between at (at + n) ws) k 0)) low
    ∙ and_mask (get_or (between at (at + n) ws) k 0) v.depth
    ∙ ap (λ x. x % 2 ^ v.depth) (get_or-between ws at (at + n) k 0 (omega arith) ∙ ap (λ m. get_or ws m 0) place)
    ∙ sym (cond-true (inside v p r (c + k)) _ 0 (column_inside v p r c n k fits h)))

-- Samples shown row by row into words.
use Rattle.std.proofs.Common.{◌≡◌, ℕ, ◌+◌, ◌-◌, ◌*◌, ◌/◌, ◌<◌, ◌≤◌, min, Bool, true, false, not, ltb, leb, ◌⊎◌, List, [], ◌∷◌, ◌++◌, map, length, get_or, take, set, replicate, Ok, Err, sym, refl, ap, ◌∙◌, subst, inl, inr, ⊎_elim, div-le_self, arith}
use borrow.Rule.Slice.PartMut.{put_mid}
use Rattle.std.specs.List.{range_with_len}
use Rattle.std.proofs.lemmas.Nat.{mul-le}
use Rattle.std.proofs.lemmas.List.FromFn.{get_or-map-range_with_len, length-map-range_with_len, fill_by_all}
use Rattle.std.proofs.lemmas.List.{append-nil, drop_all, drop-drop, get_or_append_left, get_or-append_right, get_or-replicate, get_or-set_other, get_or-set_same, length-append, length-replicate, length-take-le}
use Rattle.std.proofs.lemmas.Bool.{and_cases, and_left, and_right, cases_lt, cond-true, le-ltb, leb-false, ltb-false}
use Rattle.refusals.specs.declared.Refusal.{Refusal}
use Rattle.refusals.specs.Numbers.{numbered}
use Rattle.theory.specs.Answers.{first_row, verdict}
use Rattle.theory.specs.Pictures.{Picture, LawfulPicture, columns_inside, show_row_answer, show_row_after}
use Rattle.sender.specs.Rows.{row_samples, HoldsRow}

-- a picture is 0 below its rows and behind its columns
zero_outside : (v : Picture) → LawfulPicture v → (p r c : ℕ) → (v.height p ≤ r) ⊎ (v.width p ≤ c) → v.sample p r c ≡ 0
zero_outside v lawful p r c h =
    lawful.outside p r c
    (⊎_elim
    (λ low. and_left (ltb r (v.height p)) (ltb c (v.width p)) (le-ltb r (v.height p) low))
    (λ far. and_right (ltb r (v.height p)) (ltb c (v.width p)) (le-ltb c (v.width p) far))
    h)

-- whether a store showed a row
was_inside : (b : Bool) (x : Unit {0}) → numbered (Ok x) ≡ verdict (first_row ((not b, 1) ∷ [])) → b ≡ true
was_inside true x e = refl
was_inside false x e = absurd (let z : ◌≡◌ {A = ℕ} 0 1 = cc in omega arith)

was_outside : (b : Bool) (x : Refusal) → numbered {T = Unit {0}} (Err x) ≡ verdict (first_row ((not b, 1) ∷ [])) → b ≡ false
was_outside true x e = absurd (let z : ◌≡◌ {A = ℕ} 0 1 = cc in omega arith)
was_outside false x e = refl

module _ (v : Picture) (lawful : LawfulPicture v) (p r c : ℕ) (words : List ℕ) (m W space : ℕ) (eW : W ≡ v.width p)
    (es : space ≡ W - c) (em : m ≡ min (length words) space) where
  -- the samples inside, and fill behind them
  pub row_shown : (x : Unit {0}) (ys zs : List ℕ) (k : ℕ)
      → numbered (Ok x) ≡ show_row_answer v p r c (length (take m words))
      → ys ≡ show_row_after v p r c (take m words)
      → zs ≡ replicate k 0 → m + k ≡ length words
      → ys ++ zs ≡ row_samples v p r c (length words)
  row_shown x ys zs k e ey ez room =
      let n : ℕ = length words in
      let f : ℕ → ℕ = λ j. v.sample p r (c + j) in
      let size : length (take m words) ≡ m = length-take-le m words (omega arith) in
      let shown : ys ≡ map f (range_with_len 0 m) =
      ey ∙ cond-true (columns_inside v p r c (length (take m words))) _ _ (was_inside _ x e) ∙ ap (λ i. map f (range_with_len 0 i)) size in
      let long : length ys ≡ m = ap length shown ∙ length-map-range_with_len f 0 m in
      let all : length (ys ++ zs) ≡ n =
      length-append ys zs ∙ omega (arith, long, ap length ez, length-replicate {A = ℕ} k 0) in
      fill_by_all f (ys ++ zs) n 0 all (λ j h. ⊎_elim
      (λ (front : j < m).
      get_or_append_left ys zs 0 j (omega arith) ∙ ap (λ l. get_or l j 0) shown ∙ get_or-map-range_with_len f 0 m j j 0 front (omega arith))
      (λ (back : m ≤ j).
      get_or-append_right ys zs m j 0 long back
      ∙ ap (λ l. get_or l (j - m) 0) ez
      ∙ get_or-replicate k (j - m) 0 0 (omega arith)
      ∙ sym (zero_outside v lawful p r (c + j) (inr (omega arith))))
      (cases_lt j m))

  -- nothing but fill
  pub row_filled : (x : Refusal) (zs : List ℕ) (k : ℕ)
      → numbered {T = Unit {0}} (Err x) ≡ show_row_answer v p r c (length (take m words))
      → zs ≡ replicate k 0 → k ≡ length words
      → zs ≡ row_samples v p r c (length words)
  row_filled x zs k e ez room =
      let f : ℕ → ℕ = λ j. v.sample p r (c + j) in
      let size : length (take m words) ≡ m = length-take-le m words (omega arith) in
      let out : (v.height p ≤ r) ⊎ (v.width p < c + length (take m words)) =
      ⊎_elim
      (λ low. inl (ltb-false r (v.height p) low))
      (λ far. inr (leb-false (c + length (take m words)) (v.width p) far))
      (and_cases (ltb r (v.height p)) (leb (c + length (take m words)) (v.width p)) (was_outside _ x e)) in
      fill_by_all f zs (length words) 0 (ap length ez ∙ length-replicate {A = ℕ} k 0 ∙ room) (λ j h.
      ap (λ l. get_or l j 0) ez
      ∙ get_or-replicate k j 0 0 (omega arith)
      ∙ sym (zero_outside v lawful p r (c + j) (⊎_elim (λ low. inl low) (λ (far : v.width p < c + length (take m words)). inr (omega arith)) out)))

-- a part that is written to the end
pub put_to_end : (a k : ℕ) (xs ys : List ℕ) → length xs ≤ a + k → put_mid a k xs ys ≡ take a xs ++ ys
put_to_end a k xs ys h =
    ap (λ z. take a xs ++ (ys ++ z)) (drop-drop k a xs ∙ drop_all (a + k) xs h)
    ∙ ap (λ z. take a xs ++ z) (append-nil ys)

-- a run's samples in a row, and the rows of a group, are few
pub short_row : (n a s : ℕ) → n ≤ 64 → a ≤ 8 → n * (a / s) ≤ 512
short_row n a s h few = mul-le n (a / s) 64 8 h (omega (arith, div-le_self a s))

-- the samples of a row, before words that stay
pub row_held : (v : Picture) (p r x n a width m : ℕ) (new rest : List ℕ) → a ≡ width → m ≡ n * a → new ≡ row_samples v p r (x * a) m
    → HoldsRow v p r (x * width) (n * width) (new ++ rest)
row_held v p r x n a width m new rest e em is j h =
    let f : ℕ → ℕ = λ i. v.sample p r (x * a + i) in
    let long : length new ≡ m = ap length is ∙ length-map-range_with_len f 0 m in
    let inside : j < m = omega (arith, ap (λ y. n * y) e) in
    get_or_append_left new rest 0 j (omega arith)
    ∙ ap (λ xs. get_or xs j 0) is
    ∙ get_or-map-range_with_len f 0 m j j 0 inside (omega arith)
    ∙ ap (λ y. v.sample p r (x * y + j)) e

-- one element more
pub one_more : {A : Type 0} (z : A) (Q : ℕ → A → Type 0) (xs : List A) (d : ℕ) (x : A) → d < length xs → Q d x
    → ((e : ℕ) → e < d → Q e (get_or xs e z)) → (e : ℕ) → e < d + 1 → Q e (get_or (set xs d x) e z)
one_more z Q xs d x room new before e h =
    ⊎_elim
    (λ (old : e < d). subst (Q e) (sym (get_or-set_other xs d e x z (λ s. omega arith))) (before e old))
    (λ (here : d ≤ e).
    let same : d ≡ e = omega arith in
    subst (λ k. Q k (get_or (set xs d x) k z)) same (subst (Q d) (sym (get_or-set_same xs d x z room)) new))
    (cases_lt e d)

-- What the entries of a table tell, each a number, and what a table made by calls has.
use Rattle.std.proofs.Common.{◌≡◌, ℕ, zero, suc, ◌+◌, ◌<◌, ◌≤◌, List, length, get_or, sym, ap, ◌∙◌, subst, inl, inr, not-suc-le-zero, arith}
use Rattle.std.specs.Prelude.{slice_get}
use Rattle.std.specs.Array.{IsFromFnResult, IsFromFnResultFrom}
use Rattle.std.specs.Fn.{Mut, Called}
use Rattle.std.specs.Option.{option_map_or}
use Rattle.std.proofs.lemmas.Option.{slice_get_cases}

-- a table of n entries that tells f at each index below n, where f is 0 from n on
pub table_tells : {A : Type 0} (told : A → ℕ) (f : ℕ → ℕ) (xs : List A) (n : ℕ) → length xs ≡ n
    → ((i : ℕ) (e : A) → i < n → told (get_or xs i e) ≡ f i) → ((i : ℕ) → n ≤ i → f i ≡ 0)
    → (i : ℕ) → option_map_or told (slice_get xs i) 0 ≡ f i
table_tells told f xs n long each past i = elim (slice_get_cases xs i).1 [
  | inl h ↦ ap (λ o. option_map_or told o 0) h.2 ∙ sym (ap told h.3) ∙ each i h.0 (omega (arith, h.1, long))
  | inr h ↦ ap (λ o. option_map_or told o 0) h.1 ∙ sym (past i (omega (arith, h.0, long)))
]

-- calls that leave f as it was, and each give what has P
module _ {F A : Type 0} (calls : Mut F (ℕ × Unit {0}) A) (f : F) (P : ℕ → A → Type 0) (n : ℕ)
    (gives : (i : ℕ) (x : A) (q : F) → i < n → Called calls f (i, tt) x q → (q ≡ f) × P i x) where
  made_from : (xs : List A) (i m : ℕ) → i + m ≤ n → IsFromFnResultFrom calls f xs i m → (k : ℕ) (e : A) → k < m → P (i + k) (get_or xs (i + k) e)
  made_from xs i zero l made k e h = absurd (not-suc-le-zero h)
  made_from xs i (suc m) l made zero e h =
      let first = gives i made.1 made.0 (omega arith) made.3 in
      let here : i ≡ i + 0 = omega arith in
      subst (λ j. P j (get_or xs j e)) here (subst (P i) (sym (made.2.1 e)) first.1)
  made_from xs i (suc m) l made (suc k) e h =
      let first = gives i made.1 made.0 (omega arith) made.3 in
      let next : i + 1 + k ≡ i + suc k = omega arith in
      let rest = subst (λ g. IsFromFnResultFrom calls g xs (i + 1) m) first.0 made.4 in
      subst (λ j. P j (get_or xs j e)) next (made_from xs (i + 1) m (omega arith) rest k e (omega arith))

-- each entry of the table that they make has P
pub each_made : {F A : Type 0} {calls : Mut F (ℕ × Unit {0}) A} {f : F} {xs : List A} {n : ℕ} (P : ℕ → A → Type 0) → IsFromFnResult calls f xs n
    → ((i : ℕ) (x : A) (q : F) → i < n → Called calls f (i, tt) x q → (q ≡ f) × P i x) → (i : ℕ) (e : A) → i < n → P i (get_or xs i e)
each_made {calls = calls} {f} {xs} {n} P made gives i e h =
    let here : 0 + i ≡ i = omega arith in
    subst (λ j. P j (get_or xs j e)) here (made_from calls f P n gives xs 0 n (omega arith) made.each i e h)

-- What `parse` reads of decimal digits, and numbers without a common divisor. Assumes nothing.
use Rattle.std.proofs.Common.{◌≡◌, ℕ, ◌+◌, ◌-◌, ◌*◌, ◌%◌, ◌<◌, ◌≤◌, ◌^◌, min, Bool, true, false, cond, not, ◌&&◌, eqb, leb, List, [], ◌∷◌, map, length, get_or, Some, None, Ok, Option, Err, Result, MatchResult, option_and_then, Bor, IsUtf8, sym, refl, ap, ◌∙◌, subst, ⊎_elim, arith, rules}
use Rattle.std.specs.Bool.{then_some}
use Rattle.std.specs.Int.{◌∣◌, IsGcd}
use Rattle.std.specs.Int.Digits.{number_from_digits_after}
use Rattle.std.specs.List.{list_all, range_with_len, starts_with}
use Rattle.std.specs.Char.{is_ascii_digit}
use Rattle.std.specs.Result.{result_ok}
use Rattle.std.specs.Str.Parse.{ParsesUnsigned}
use Rattle.std.proofs.lemmas.Bool.{lt-leb, leb-true, eq-eqb, ne_eqb, eqb-true, eqb-false, not-true, and_parts, cases_eq, cases_lt, false≢true}
use Rattle.std.proofs.lemmas.Option.{cond_some, none-some}
use Rattle.std.proofs.lemmas.Int.Digits.{number_after_ge}
use Rattle.std.proofs.Math.Nat.{eq-zero_of_zero-dvd}
use Rattle.std.proofs.lemmas.Nat.Gcd.{le_of_dvd, mod-eq-zero_of_dvd, dvd_of_mod-eq-zero}
use Rattle.std.proofs.lemmas.List.{get_or_past}
use Rattle.std.proofs.lemmas.List.FromFn.{length-range_with_len, get_or-range_with_len}
use Rattle.std.proofs.lemmas.List.Sums.{list_all-from_AllPass, AllPass-from_list_all}
use Rattle.std.proofs.lemmas.List.Folds.{list_all_at}
use Rattle.std.proofs.lemmas.Str.{IsUtf8-from_ascii}
use Rattle.std.proofs.lemmas.Str.Parse.{IsNumeralModel, numerals_by_fold, parse_digits}
use Rattle.fmtp.specs.Lines.{empty}
use Rattle.fmtp.specs.Decimals.{written, decimal_of, divides_both, coprime}

-- texts of digits, and what they write
own : IsNumeralModel (λ ds. list_all is_ascii_digit ds ≡ true) written
own = numerals_by_fold _ (search rules) (λ n ds. number_from_digits_after 10 n (map (λ c. c - 0x30) ds)) (search rules)

-- `decimal_of`, where its tests are known
decimal_by : (limit : ℕ) (text : List ℕ) (none zero digits fits : Bool) → empty text ≡ none → eqb (get_or text 0 0) 0x30 ≡ zero → list_all is_ascii_digit text ≡ digits
    → leb (written text) limit ≡ fits
    → decimal_of limit text ≡ cond (not none && not zero && (digits && fits)) (Some (written text)) None
decimal_by limit text none zero digits fits a b c d = λ i. cond (not (a i) && not (b i) && (c i && d i)) (Some (written text)) None

-- what `parse` reads of digits
parsed : {E : Type 0} (limit : ℕ) (text : List ℕ) → limit < 2 ^ 32 → eqb (get_or text 0 0) 0x30 ≡ false → list_all is_ascii_digit text ≡ true
    → (r : Result ℕ E) → ParsesUnsigned 32 10 text r
    → decimal_of limit text ≡ option_and_then (λ n. then_some (leb n limit) n) (result_ok r)
parsed {E = E} limit text small lead digits (Ok n) h =
    let read = parse_digits own {E = E} 32 text (Ok n) h digits in
    decimal_by limit text false false true (leb (written text) limit) (ne_eqb (length text) 0 (λ z. omega (arith, read.0.0))) lead digits refl
    ∙ go (leb (written text) limit) ∙ ap (λ m. then_some (leb m limit) m) (sym read.1)
  where
    go : (b : Bool) → cond b (Some (written text)) None ≡ then_some b (written text)
    go true = refl
    go false = refl
parsed {E = E} limit text small lead digits (Err e) h =
    let read = parse_digits own {E = E} 32 text (Err e) h digits in
    ⊎_elim
    (λ some. ⊎_elim
    (λ over. decimal_by limit text false false true false (ne_eqb (length text) 0 (λ z. omega arith)) lead digits (lt-leb (written text) limit over))
    (λ fits. absurd (read (some, omega arith)))
    (cases_lt limit (written text)))
    (λ none. decimal_by limit text true false true (leb (written text) limit) (eq-eqb (length text) 0 (omega arith)) lead digits refl)
    (cases_lt 0 (length text))

-- a text with no zero in front
no_zero : (text : List ℕ) → starts_with eqb text (0x30 ∷ []) ≡ false → eqb (get_or text 0 0) 0x30 ≡ false
no_zero [] h = refl
no_zero (c ∷ cs) h = ne_eqb c 0x30 (λ e. false≢true (sym h ∙ ap (λ d. eqb 0x30 d && true) e))

-- digits are text
digits_are_text : (bs : List ℕ) → list_all is_ascii_digit bs ≡ true → IsUtf8 bs
digits_are_text bs h = IsUtf8-from_ascii bs ascii
  where
    ascii : (i : ℕ) → get_or bs i 0 < 128
    ascii i =
        ⊎_elim
        (λ l. omega (arith, leb-true (get_or bs i 0) 57 (and_parts (leb 48 (get_or bs i 0)) _ (AllPass-from_list_all is_ascii_digit bs h i 0 l)).1))
        (λ past. omega (arith, get_or_past bs i 0 past))
        (cases_lt i (length bs))

-- digits, read as text and then as a number
module _ {E : Type 0} (W : E → Type 0) (text : List ℕ) (u : Result (Bor (List ℕ)) E) (cases : MatchResult u (λ s. (s.now ≡ text) × IsUtf8 text) (λ e. ¬ (IsUtf8 text) × W e))
    (digits : list_all is_ascii_digit text ≡ true) where
  pub some_text : result_ok u ≡ None → ⊥
  some_text = go u cases
    where
      go : (u : Result (Bor (List ℕ)) E) → MatchResult u (λ s. (s.now ≡ text) × IsUtf8 text) (λ e. ¬ (IsUtf8 text) × W e) → result_ok u ≡ None → ⊥
      go (Ok s) h is = cc
      go (Err e) h is = h.0 (digits_are_text text digits)

  is_text : (s : Bor (List ℕ)) → result_ok u ≡ Some s → s.now ≡ text
  is_text s = go u cases
    where
      go : (u : Result (Bor (List ℕ)) E) → MatchResult u (λ s. (s.now ≡ text) × IsUtf8 text) (λ e. ¬ (IsUtf8 text) × W e) → result_ok u ≡ Some s → s.now ≡ text
      go (Ok t) h is = let same : t ≡ s = cc in sym (ap (λ t. t.now) same) ∙ h.0
      go (Err t) h is = cc

  pub read : {F : Type 0} (limit : ℕ) → limit < 2 ^ 32 → starts_with eqb text (0x30 ∷ []) ≡ false → (s : Bor (List ℕ)) → result_ok u ≡ Some s → (r : Result ℕ F) → ParsesUnsigned 32 10 s.now r
      → (o : Option ℕ) → result_ok r ≡ o → option_and_then (λ n. then_some (leb n limit) n) o ≡ decimal_of limit text
  read limit small lead s is r h o told =
      sym (parsed limit text small (no_zero text lead) digits r (subst (λ t. ParsesUnsigned 32 10 t r) (is_text s is) h) ∙ ap (option_and_then (λ n. then_some (leb n limit) n)) told)

-- a number that was read is not 0
pub decimal_positive : (limit : ℕ) (text : List ℕ) (n : ℕ) → decimal_of limit text ≡ Some n → 0 < n
decimal_positive limit [] n e = absurd (none-some n e)
decimal_positive limit (c ∷ cs) n e =
    let told = cond_some _ (written (c ∷ cs)) n e in
    let tests = and_parts (not (empty (c ∷ cs)) && not (eqb c 0x30)) (list_all is_ascii_digit (c ∷ cs) && leb (written (c ∷ cs)) limit) told.0 in
    let lead = eqb-false c 0x30 (not-true _ (and_parts (not (empty (c ∷ cs))) (not (eqb c 0x30)) tests.0).1) in
    let first = and_parts (leb 0x30 c) (leb c 0x39) (and_parts (is_ascii_digit c) (list_all is_ascii_digit cs) (and_parts (list_all is_ascii_digit (c ∷ cs)) _ tests.1).0).0 in
    let least = leb-true 0x30 c first.0 in
    let grows = number_after_ge 10 (0 * 10 + (c - 0x30)) (map (λ c. c - 0x30) cs) (omega arith) in
    omega (arith, told.1)

-- a divisor of both
divides_both-from : (a b k : ℕ) → k ∣ a → k ∣ b → divides_both a b k ≡ true
divides_both-from a b k p q = λ i. eqb (mod-eq-zero_of_dvd k p i) 0 && eqb (mod-eq-zero_of_dvd k q i) 0

abbrev apart_at : ℕ → ℕ → ℕ → Bool
apart_at a b k = not (divides_both a b k)

-- numbers have no common divisor from 2 on where their greatest is 1
pub coprime_by_gcd : (a b x : ℕ) → 0 < a → 0 < b → IsGcd a b x → eqb x 1 ≡ coprime a b
coprime_by_gcd a b x pa pb gcd = ⊎_elim one more (cases_eq x 1)
  where
    one : x ≡ 1 → eqb x 1 ≡ coprime a b
    one e = eq-eqb x 1 e ∙ sym (list_all-from_AllPass (apart_at a b) (range_with_len 2 (min a b - 1)) passes)
      where
        apart : (k : ℕ) → 2 ≤ k → (b' : Bool) → divides_both a b k ≡ b' → not b' ≡ true
        apart k two false h = refl
        apart k two true h =
            let both = and_parts (eqb (a % k) 0) (eqb (b % k) 0) h in
            let in_x = gcd.2 k (dvd_of_mod-eq-zero k (eqb-true _ 0 both.0)) (dvd_of_mod-eq-zero k (eqb-true _ 0 both.1)) in
            absurd (omega (arith, le_of_dvd (omega arith) in_x))

        passes : (i d : ℕ) → i < length (range_with_len 2 (min a b - 1)) → apart_at a b (get_or (range_with_len 2 (min a b - 1)) i d) ≡ true
        passes i d l =
            let within : i < min a b - 1 = omega (arith, length-range_with_len 2 (min a b - 1)) in
            ap (apart_at a b) (get_or-range_with_len 2 (min a b - 1) i d within) ∙ apart (2 + i) (omega arith) (divides_both a b (2 + i)) refl

    more : (x ≡ 1 → ⊥) → eqb x 1 ≡ coprime a b
    more ne =
        let in-a = le_of_dvd pa gcd.0 in
        let in-b = le_of_dvd pb gcd.1 in
        let some : 0 < x = positive in
        let within : x - 2 < min a b - 1 = omega arith in
        let at = get_or-range_with_len 2 (min a b - 1) (x - 2) 0 within in
        let is : 2 + (x - 2) ≡ x = omega arith in
        ne_eqb x 1 ne ∙ sym (list_all_at (apart_at a b) (range_with_len 2 (min a b - 1)) (x - 2) 0 (omega (arith, length-range_with_len 2 (min a b - 1)))
        (ap (apart_at a b) (at ∙ is) ∙ ap not (divides_both-from a b x gcd.0 gcd.1)))
      where
        positive : 0 < x
        positive = ⊎_elim (λ p. p) (λ z. absurd (omega (arith, eq-zero_of_zero-dvd (subst (λ n. n ∣ a) (omega arith) gcd.0)))) (cases_lt 0 x)

-- From the check of a format and of the number of words to what making a planar store answers.
use Rattle.std.proofs.Common.{◌≡◌, ℕ, ◌<◌, ◌≤◌, Bool, true, false, cond, not, ltb, [], ◌∷◌, Some, None, Ok, Err, Option, Result, refl, sym, ap, ◌∙◌}
use Rattle.std.proofs.lemmas.Bool.{ltb-false, lt-ltb, le-ltb}
use Rattle.theory.specs.Answers.{first_row, is_none, verdict}
use Rattle.theory.specs.Formats.{Format, lawful_format}
use Rattle.formats.specs.Frames.{planar_words}
use Rattle.formats.specs.Meaning.{format_check}
use Rattle.stores.specs.Words.{planar_refusal, planar_check}

abbrev rows : Bool → Bool → Option ℕ
rows good short = first_row ((not good, 4) ∷ (short, 3) ∷ [])

abbrev Verdict : Type 0
Verdict = Result (Unit {0}) ℕ

first_refused : (good short : Bool) (n : ℕ) → ◌≡◌ {A = Verdict} (Err n) (cond good (Ok tt) (Err 4)) → ◌≡◌ {A = Verdict} (Err n) (verdict (rows good short))
first_refused true short n e = absurd cc
first_refused false short n e = e

second_tells : (good short : Bool) → ◌≡◌ {A = Verdict} (Ok tt) (cond good (Ok tt) (Err 4)) → cond short (Err 3) (Ok tt) ≡ verdict (rows good short)
second_tells true true e = refl
second_tells true false e = refl
second_tells false short e = absurd cc

passed : (good short : Bool) → is_none (rows good short) ≡ true → (good ≡ true) × (short ≡ false)
passed true true e = absurd cc
passed true false e = (refl, refl)
passed false short e = absurd cc

-- what is made where nothing refuses it, and what else
pub not_refused : {X : Type 0} (o : Option ℕ) (a b : X) → ◌≡◌ {A = Verdict} (Ok tt) (verdict o) → a ≡ cond (is_none o) a b
not_refused None a b e = refl
not_refused (Some row) a b e = absurd cc

pub refused : {X : Type 0} (o : Option ℕ) (a b : X) (n : ℕ) → ◌≡◌ {A = Verdict} (Err n) (verdict o) → b ≡ cond (is_none o) a b
refused None a b n e = absurd cc
refused (Some row) a b n e = refl

module _ (f : Format) (n : ℕ) where
  pub format_refused : (e : ℕ) → Err e ≡ format_check f → Err e ≡ planar_check f n
  format_refused e = first_refused (lawful_format f) (ltb n (planar_words f)) e

  pub memory_short : (m : ℕ) → m ≡ planar_words f → Ok tt ≡ format_check f → n < m → Err 3 ≡ planar_check f n
  memory_short m e good h = ap (λ b. cond b (Err 3) (Ok tt)) (sym (lt-ltb n m h) ∙ ap (ltb n) e) ∙ second_tells (lawful_format f) (ltb n (planar_words f)) good

  pub memory_serves : (m : ℕ) → m ≡ planar_words f → Ok tt ≡ format_check f → m ≤ n → Ok tt ≡ planar_check f n
  memory_serves m e good h = ap (λ b. cond b (Err 3) (Ok tt)) (sym (le-ltb n m h) ∙ ap (ltb n) e) ∙ second_tells (lawful_format f) (ltb n (planar_words f)) good

  pub check_passed : is_none (planar_refusal f n) ≡ true → (lawful_format f ≡ true) × (planar_words f ≤ n)
  check_passed e =
      let both = passed (lawful_format f) (ltb n (planar_words f)) e in
      (both.0, ltb-false n (planar_words f) both.1)

-- From the checks of a call to the rows of the refusal table.
use Rattle.std.proofs.Common.{◌≡◌, ℕ, ◌≤◌, Bool, true, false, cond, not, ◌||◌, ltb, List, [], ◌∷◌, length, IsErrAnd, Some, None, Ok, Err, Option, Result, sym, refl, ap, ◌∙◌}
use Rattle.std.proofs.lemmas.Bool.{leb-true}
use Rattle.formats.specs.Meaning.{format_check, part_check}
use Rattle.refusals.specs.declared.Refusal.{Refusal}
use Rattle.refusals.specs.Numbers.{number_of, numbered}
use Rattle.stores.specs.Keeping.{IfRefused}
use Rattle.theory.specs.Answers.{first_row, is_none, unless, verdict}
use Rattle.theory.specs.Formats.{Part, map_octets, lawful_format, lawful_field}
use Rattle.theory.specs.Pictures.{Picture, fits_part}
use Rattle.theory.specs.Taking.{open_refusal, map_after_opening, opened_map, count_refusal, survey_refusal}
use Rattle.theory.proofs.Steps.{opening_allowed}
use Rattle.receiver.specs.Opening.{opening}

-- a refusal that is handed on: what it answers, and what is kept
pub handed_on : {T : Type 0} (e : Refusal) (a : Result T ℕ) (r : Result T Refusal) → IsErrAnd r (λ y. y ≡ e) → Err (number_of e) ≡ a → numbered r ≡ a
handed_on e a (Ok x) b s = absurd b
handed_on e a (Err y) b s = ap (λ z. Err (number_of z)) b ∙ s

pub kept_on : {T P : Type 0} (e : Refusal) (r : Result T Refusal) → IsErrAnd r (λ y. y ≡ e) → P → IfRefused r P
kept_on e (Ok x) b p = absurd b
kept_on e (Err y) b p = p

-- an answer tells its row, or that there is none
pub no_row : {X : Type 0} (o : Option ℕ) (x y : X) → Ok y ≡ unless o x → (o ≡ None) × (y ≡ x)
no_row None x y e = (refl, let z : y ≡ x = cc in z)
no_row (Some row) x y e = cc

pub row_of : {X : Type 0} (o : Option ℕ) (x : X) (n : ℕ) → Err n ≡ unless o x → o ≡ Some n
row_of None x n e = cc
row_of (Some row) x n e = let z : row ≡ n = cc in ap Some z

pub passes : (o : Option ℕ) → Ok tt ≡ verdict o → o ≡ None
passes o e = (no_row o tt tt e).0

-- what the checks answer one after another is the first row that holds.
-- l: the format is inside the limits; f: it has the field; s: the map is too short; k: the store fits
abbrev Verdict : Type 0
Verdict = Result (Unit {0}) ℕ

abbrev format_said : Bool → Verdict
format_said l = cond l (Ok tt) (Err 4)

abbrev part_said : Bool → Bool → Verdict
part_said l f = cond l (cond f (Ok tt) (Err 5)) (Err 4)

abbrev two_rows : Bool → Bool → Option ℕ
two_rows l s = first_row ((not l, 4) ∷ (s, 6) ∷ [])

abbrev three_rows : Bool → Bool → Bool → Option ℕ
three_rows l f s = first_row ((not l, 4) ∷ (not f, 5) ∷ (s, 6) ∷ [])

format_first : (l s : Bool) (n : ℕ) → Err n ≡ format_said l → Err n ≡ verdict (two_rows l s)
format_first true s n e = cc
format_first false s n e = e

map_first : (l s k : Bool) (n : ℕ) → Err n ≡ verdict (two_rows l s) → Err n ≡ verdict (two_rows l (not k || s))
map_first false s k n e = e
map_first true true true n e = e
map_first true true false n e = e
map_first true false k n e = cc

then_store : (l s k : Bool) → Ok tt ≡ verdict (two_rows l s) → k ≡ false → Err 6 ≡ verdict (two_rows l (not k || s))
then_store false s k e h = cc
then_store true s true e h = cc
then_store true s false e h = refl

part_first : (l f s : Bool) (n : ℕ) → Err n ≡ part_said l f → Err n ≡ verdict (three_rows l f s)
part_first true true s n e = cc
part_first true false s n e = e
part_first false f s n e = e

module _ (t : Part) (m : List ℕ) where
  pub part_refused : (n : ℕ) → Err n ≡ part_check t → Err n ≡ verdict (open_refusal t m)
  part_refused = part_first (lawful_format t.format) (lawful_field t.format t.field) (ltb (length m) (map_octets t))

  pub format_refused : (n : ℕ) → Err n ≡ format_check t.format → Err n ≡ verdict (count_refusal t m)
  format_refused = format_first (lawful_format t.format) (ltb (length m) (map_octets t))

  module _ (v : Picture) where
    pub map_refused : (n : ℕ) → Err n ≡ verdict (count_refusal t m) → Err n ≡ verdict (survey_refusal t v m)
    map_refused = map_first (lawful_format t.format) (ltb (length m) (map_octets t)) (fits_part v t)

    pub store_refused : Ok tt ≡ verdict (count_refusal t m) → fits_part v t ≡ false → Err 6 ≡ verdict (survey_refusal t v m)
    store_refused = then_store (lawful_format t.format) (ltb (length m) (map_octets t)) (fits_part v t)

  pub open_refused : (n : ℕ) → Err n ≡ verdict (open_refusal t m) → (Err n ≡ opening t m) × (m ≡ map_after_opening t m)
  open_refused n e =
      let row : open_refusal t m ≡ Some n = row_of (open_refusal t m) tt n e in
      (sym (ap (λ o. unless o t) row), sym (ap (λ o. cond (is_none o) (opened_map t m) m) row))

  pub opens : Ok tt ≡ verdict (open_refusal t m) → (Ok t ≡ opening t m) × (opened_map t m ≡ map_after_opening t m) × (map_octets t ≤ length m)
  opens e =
      let none : open_refusal t m ≡ None = passes (open_refusal t m) e in (
        sym (ap (λ o. unless o t) none),
        sym (ap (λ o. cond (is_none o) (opened_map t m) m) none),
        leb-true (map_octets t) (length m) (opening_allowed t m none).2,
      )

-- How an offer is refused, by its checks or by the reader, and when it is taken.
use Rattle.std.proofs.Common.{◌≡◌, ℕ, ◌*◌, ◌<◌, ◌≤◌, Bool, true, false, cond, not, ◌||◌, ltb, List, [], ◌∷◌, length, get_or, Some, None, Ok, Err, Option, sym, ap, ◌∙◌, ap₂, arith}
use Rattle.std.proofs.lemmas.Bool.{and_parts, or_parts, ltb-true, ltb-false, not-false}
use Rattle.packets.specs.Reading.{Carried, carried, reading_refusal, reading}
use Rattle.theory.specs.Answers.{first_row, is_none, verdict, answer}
use Rattle.theory.specs.Octets.{AllOctets}
use Rattle.theory.specs.Formats.{Part, layout_of, groups, map_octets, lawful_format}
use Rattle.theory.specs.Pictures.{Picture, fits_part}
use Rattle.theory.specs.Packets.{packet_rows}
use Rattle.theory.specs.Taking.{survey_refusal, offer_refusal, offer_answer, set_count, picture_after, map_after}
use Rattle.theory.proofs.Readable.{row_fails}
use Rattle.theory.proofs.Unchanged.{unchanged}
use Rattle.receiver.proofs.Checks.{no_row, row_of}

-- l: the format is inside the limits; s: the store or the map is unfit; o: the packet's row
earlier_row : (l s : Bool) (o : Option ℕ) (n : ℕ) → first_row ((not l, 4) ∷ (s, 6) ∷ []) ≡ Some n
    → cond (not l) (Some 4) (cond s (Some 6) o) ≡ Some n
earlier_row false s o n e = e
earlier_row true true o n e = e
earlier_row true false o n e = cc

module _ (t : Part) (v : Picture) (m q : List ℕ) where
  -- a refused offer answers its row, and nothing changes
  abbrev pub NotTaken : ℕ → Type 0
  NotTaken n = (Err n ≡ offer_answer t v m q) × (v ≡ picture_after t v m q) × (m ≡ map_after t v m q)

  not_taken : (n : ℕ) → AllOctets m → offer_refusal t v m q ≡ Some n → NotTaken n
  not_taken n octets row =
      let same = unchanged t v m q octets (ap is_none row) in
      (sym (ap (λ o. answer o (set_count t v m q)) row), sym same.0, sym same.1)

  -- the checks refuse it
  pub check_refuses : (n : ℕ) → AllOctets m → Err n ≡ verdict (survey_refusal t v m) → NotTaken n
  check_refuses n octets e =
      not_taken n octets
      (earlier_row (lawful_format t.format) (not (fits_part v t) || ltb (length m) (map_octets t)) (first_row (packet_rows t q)) n
      (row_of (survey_refusal t v m) tt n e))

-- a store and a map that fit the part
module _ (t : Part) (v : Picture) (m : List ℕ) (ready : survey_refusal t v m ≡ None) where
  abbrev checks : List (Bool × ℕ)
  checks = (not (lawful_format t.format), 4) ∷ (not (fits_part v t) || ltb (length m) (map_octets t), 6) ∷ []

  fails : (i : ℕ) → (get_or checks i (false, 0)).0 ≡ false
  fails i = row_fails checks i (ap is_none ready)

  allowed : lawful_format t.format ≡ true
  allowed = not-false (lawful_format t.format) (fails 0)

  six : (not (fits_part v t) ≡ false) × (ltb (length m) (map_octets t) ≡ false)
  six = or_parts (not (fits_part v t)) (ltb (length m) (map_octets t)) (fails 1)

  pub some_octets : 0 < (layout_of t.format).octets
  some_octets =
      ltb-true 0 (layout_of t.format).octets
      (and_parts _ _ (and_parts _ _ (and_parts _ _ (and_parts _ _ (and_parts _ _ allowed).0).0).0).0).0

  pub store_fits : fits_part v t ≡ true
  store_fits = not-false (fits_part v t) six.0

  pub map_long : groups t ≤ 8 * length m
  map_long = let h : map_octets t ≤ length m = ltb-false (length m) (map_octets t) six.1 in omega arith

  -- they still do, when samples and bits were put
  pub ready_still : (v' : Picture) (m' : List ℕ) → fits_part v' t ≡ fits_part v t → length m' ≡ length m → survey_refusal t v' m' ≡ None
  ready_still v' m' fit long =
      ap₂ (λ b n. first_row ((not (lawful_format t.format), 4) ∷ (not b || ltb n (map_octets t), 6) ∷ [])) fit long ∙ ready

  module _ (q : List ℕ) where
    -- the packet's rows alone are left
    offer_as_read : offer_refusal t v m q ≡ reading_refusal t q
    offer_as_read =
        ap₂ (λ a b. cond a (Some 4) (cond b (Some 6) (first_row (packet_rows t q)))) (fails 0) (fails 1)
        ∙ sym (ap (λ a. cond a (Some 4) (first_row (packet_rows t q))) (fails 0))

    -- the reader refuses it
    pub reader_refuses : (n : ℕ) → AllOctets m → Err n ≡ reading t q → NotTaken t v m q n
    reader_refuses n octets e = not_taken t v m q n octets (offer_as_read ∙ row_of (reading_refusal t q) (carried t q) n e)

    -- the reader reads it, and it is taken
    pub reader_takes : (w : Carried) → Ok w ≡ reading t q → (offer_refusal t v m q ≡ None) × (w ≡ carried t q)
    reader_takes w e = let r = no_row (reading_refusal t q) (carried t q) w e in (offer_as_read ∙ r.0, r.1)

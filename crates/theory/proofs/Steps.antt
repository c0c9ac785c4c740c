-- A run grows by what the contract of a call says.
use Rattle.std.proofs.Common.{◌≡◌, ℕ, Bool, true, false, leb, List, [], ◌∷◌, length, get_or, None, sym, ap, subst}
use Rattle.std.proofs.lemmas.Bool.{not-false, ltb-false, le-leb}
use Rattle.theory.specs.Formats.{Part, map_octets, lawful_format, lawful_field}
use Rattle.theory.proofs.Readable.{row_fails}
use Rattle.theory.specs.Answers.{is_none, Answer}
use Rattle.theory.specs.Pictures.{Picture}
use Rattle.theory.specs.Taking.{open_rows, open_refusal, offer_answer, count_answer, picture_after, map_after, opened_map}
use Rattle.theory.specs.Runs.{Event, offer, count, Start, Reached, opened, offered, counted}

-- an opening that is not refused has tested format, field and map
pub opening_allowed : (t : Part) (m : List ℕ) → open_refusal t m ≡ None
    → (lawful_format t.format ≡ true) × (lawful_field t.format t.field ≡ true) × (leb (map_octets t) (length m) ≡ true)
opening_allowed t m h =
    let rows : List (Bool × ℕ) = open_rows t (length m) in
    let fails : (i : ℕ) → (get_or rows i (false, 0)).0 ≡ false = λ i. row_fails rows i (ap is_none h) in (
      not-false (lawful_format t.format) (fails 0),
      not-false (lawful_field t.format t.field) (fails 1),
      le-leb (map_octets t) (length m) (ltb-false (length m) (map_octets t) (fails 2)),
    )

pub after_open : (s : Start) (v : Picture) (m : List ℕ) → v ≡ s.picture → m ≡ opened_map s.part s.map → Reached s [] v m
after_open s v m ev em = subst (λ x. Reached s [] x m) (sym ev) (subst (λ x. Reached s [] s.picture x) (sym em) opened)

pub after_offer : {s : Start} {es : List Event} {v : Picture} {m : List ℕ} → Reached s es v m → (q : List ℕ) (a : Answer) (w : Picture) (n : List ℕ)
    → a ≡ offer_answer s.part v m q → w ≡ picture_after s.part v m q → n ≡ map_after s.part v m q
    → Reached s (offer q a ∷ es) w n
after_offer {s} {es} {v} {m} r q a w n ea ew en =
    subst (λ x. Reached s (offer q x ∷ es) w n) (sym ea)
    (subst (λ x. Reached s (offer q (offer_answer s.part v m q) ∷ es) x n) (sym ew)
    (subst (λ x. Reached s (offer q (offer_answer s.part v m q) ∷ es) (picture_after s.part v m q) x) (sym en) (offered r q)))

pub after_count : {s : Start} {es : List Event} {v : Picture} {m : List ℕ} → Reached s es v m → (a : Answer) → a ≡ count_answer s.part m
    → Reached s (count a ∷ es) v m
after_count {s} {es} {v} {m} r a e = subst (λ x. Reached s (count x ∷ es) v m) (sym e) (counted r)

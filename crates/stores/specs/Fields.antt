-- One field of a frame, as a picture over the frame's.
use Rattle.std.specs.Prelude.{◌≡◌, ℕ, ◌+◌, ◌-◌, ◌*◌, ◌/◌, cond, not, ◌&&◌, List, [], ◌∷◌, Some, None, Option, Result, nat_le, nat_lt, refl}
use Rattle.std.proofs.Common.{sym, ◌∙◌, ap, inl, inr, arith, lit<, lit≤}
use Rattle.std.proofs.lemmas.Bool.{cases_lt, lt-ltb, le-ltb, cond_both}
use Rattle.theory.specs.Answers.{first_row, verdict}
use Rattle.theory.specs.Pictures.{Picture, LawfulPicture, inside, put_after, put_row_after, no_picture, field_of}

-- 5 where a frame has no such field
abbrev pub field_check : ℕ → Result (Unit {0}) ℕ
field_check f = verdict (first_row ((not (nat_le f 1), 5) ∷ []))

-- field f of a frame; no planes where there is no such field
abbrev pub field_picture : Picture → ℕ → Picture
field_picture v f = cond (nat_le f 1) (field_of v f) no_picture

-- the frame that a put into field f leaves: it puts into row 2r + f
abbrev pub below_after : Picture → ℕ → ℕ → ℕ → ℕ → ℕ → Picture
below_after v f p r c x = cond (nat_le f 1) (put_after v p (2 * r + f) c x) v

-- and the one that putting a row into it leaves
abbrev pub below_row_after : Picture → ℕ → ℕ → ℕ → ℕ → List ℕ → Picture
below_row_after v f p r c xs = cond (nat_le f 1) (put_row_after v p (2 * r + f) c xs) v

-- the other field of the frame
abbrev pub other_field : Picture → ℕ → Picture
other_field v f = field_of v (1 - f)

-- what no put into field f changes: what none changes below, the field, and the other field
abbrev pub field_rest : {R : Type 0} → R → Picture → ℕ → R × ℕ × Picture
field_rest rest v f = (rest, f, other_field v f)

-- the frame's row, where the field has this one
abbrev pub frame_row : Picture → ℕ → ℕ → ℕ → Option ℕ
frame_row v f p r = cond (nat_lt r ((field_picture v f).height p)) (Some (2 * r + f)) None

-- a row is in the field just where its row is in the frame
pub row_inside : (h f r : ℕ) → nat_lt r ((h + 1 - f) / 2) ≡ nat_lt (2 * r + f) h
row_inside h f r = elim (cases_lt (2 * r + f) h) [
  | inl k ↦ lt-ltb r ((h + 1 - f) / 2) (omega arith) ∙ sym (lt-ltb (2 * r + f) h k)
  | inr k ↦ le-ltb r ((h + 1 - f) / 2) (omega arith) ∙ sym (le-ltb (2 * r + f) h k)
]

pub place_inside : (v : Picture) (f p r c : ℕ) → inside (field_of v f) p r c ≡ inside v p (2 * r + f) c
place_inside v f p r c = ap (λ b. b && nat_lt c (v.width p)) (row_inside (v.height p) f r)

-- a field of a lawful picture is lawful
no_rows : (h f : ℕ) → h ≡ 0 → (h + 1 - f) / 2 ≡ 0
no_rows h f e = omega arith

none_lawful : LawfulPicture no_picture
none_lawful = record {
  depth_range = (lit≤ tt, lit≤ tt);
  no_width = λ _ _. refl;
  no_height = λ _ _. refl;
  below = λ _ _ _. lit< tt;
  outside = λ _ _ _ _. refl;
}

of_lawful : (v : Picture) (f : ℕ) → LawfulPicture v → LawfulPicture (field_of v f)
of_lawful v f l = record {
  depth_range = l.depth_range;
  no_width = l.no_width;
  no_height = λ p h. no_rows (v.height p) f (l.no_height p h);
  below = λ p r c. l.below p (2 * r + f) c;
  outside = λ p r c h. l.outside p (2 * r + f) c (sym (place_inside v f p r c) ∙ h);
}

pub field_lawful : (v : Picture) (f : ℕ) → LawfulPicture v → LawfulPicture (field_picture v f)
field_lawful v f l = cond_both (nat_le f 1) (field_of v f) no_picture (λ u. LawfulPicture u) (λ _. of_lawful v f l) (λ _. none_lawful)

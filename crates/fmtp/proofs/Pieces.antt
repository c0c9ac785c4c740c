-- The pieces of a line, from the front on. Assumes nothing.
use Rattle.std.proofs.Common.{◌≡◌, ℕ, ◌<◌, ◌≤◌, Bool, true, false, cond, not, ◌&&◌, ◌||◌, eqb, ltb, List, [], ◌∷◌, length, is_some, Some, None, Option, sym, refl, ap, ◌∙◌, arith}
use Rattle.std.specs.Option.{option_map}
use Rattle.std.specs.List.{list_all, position_or_len, after_first}
use Rattle.std.proofs.lemmas.Bool.{ltb-true, ltb-false}
use Rattle.std.proofs.lemmas.List.{take_all}
use Rattle.std.proofs.lemmas.List.Splits.{slice_split_first, slice_split_none}
use Rattle.std.proofs.lemmas.List.Sums.{fails_before_first}
use Rattle.fmtp.specs.Lines.{EntryText, before, behind, trimmed, entry_of, pieces, is_last, later_piece, later_fit, pieces_fit, empty, well_formed, with_entry, entries_in, entries}
use Rattle.fmtp.specs.Borrowed.{pieces_behind, with_last}

pub some_mapped : {A B : Type 0} (f : A → B) (o : Option A) → is_some (option_map f o) ≡ is_some o
some_mapped f None = refl
some_mapped f (Some x) = refl

-- a text without a c is all in front of it
pub before_all : (c : ℕ) (xs : List ℕ) → length xs ≤ position_or_len (λ x. eqb x c) xs → before c xs ≡ xs
before_all c xs h = take_all (position_or_len (λ x. eqb x c) xs) xs h

-- the first piece, and the pieces behind the first semicolon
pub pieces_split : (xs : List ℕ) → pieces xs ≡ before 0x3B xs ∷ pieces_behind (behind 0x3B xs)
pieces_split xs = go (ltb (position_or_len (λ x. eqb x 0x3B) xs) (length xs)) refl
  where
    go : (b : Bool) → ltb (position_or_len (λ x. eqb x 0x3B) xs) (length xs) ≡ b
        → pieces xs ≡ before 0x3B xs ∷ pieces_behind (cond b (Some (after_first (λ x. eqb x 0x3B) xs)) None)
    go true h = slice_split_first (λ x. eqb x 0x3B) xs 0 (ltb-true _ _ h)
    go false h =
        let all = ltb-false _ _ h in
        slice_split_none (λ x. eqb x 0x3B) xs (λ k d l. fails_before_first (λ x. eqb x 0x3B) xs k d (omega arith)) ∙ ap (λ p. p ∷ []) (sym (before_all 0x3B xs all))

last_by : (more : Option (List ℕ)) (last : Bool) → is_some more ≡ not last → is_last (pieces_behind more) ≡ last
last_by None true h = refl
last_by None false h = cc
last_by (Some xs) true h = cc
last_by (Some xs) false h = ap is_last (pieces_split xs)

-- the same steps, at the two parts that a text was split into
module _ (text front : List ℕ) (more : Option (List ℕ)) (is_front : front ≡ before 0x3B text) (is-more : more ≡ behind 0x3B text) where
  pieces_of : pieces text ≡ front ∷ pieces_behind more
  pieces_of = pieces_split text ∙ (λ i. sym is_front i ∷ pieces_behind (sym is-more i))

  pub entries_step : (inner : List ℕ) (e : Option EntryText) → inner ≡ trimmed front → e ≡ entry_of inner → entries text ≡ with_entry e (entries_in (pieces_behind more))
  entries_step inner e is-inner is-e =
      ap entries_in pieces_of ∙ ap (λ o. with_entry o (entries_in (pieces_behind more))) (sym (is-e ∙ ap entry_of is-inner))

  pub pieces_step : (last : Bool) → is_some more ≡ not last → with_last (pieces text) ≡ (front, last) ∷ with_last (pieces_behind more)
  pieces_step last h = ap with_last pieces_of ∙ ap (λ b. (front, b) ∷ with_last (pieces_behind more)) (last_by more last h)

  pub well_formed_step : (fits : Bool) → false ≡ empty text → fits ≡ is_some (entry_of front) → well_formed text ≡ fits && later_fit (pieces_behind more)
  well_formed_step fits h is =
      ap (λ b. b || pieces_fit (pieces text)) (sym h) ∙ ap pieces_fit pieces_of ∙ ap (λ b. b && later_fit (pieces_behind more)) (sym is)

-- the pieces behind the first fit, one by one
pub later_all : (ps : List (List ℕ)) → later_fit ps ≡ list_all (λ p. later_piece p.1 p.0) (with_last ps)
later_all [] = refl
later_all (p ∷ ps) = ap (λ b. later_piece (is_last ps) p && b) (later_all ps)

-- a list that lost its first element is shorter
pub shorter : {A : Type 0} (x : A) (all rest : List A) → all ≡ x ∷ rest → length rest < length all
shorter x all rest e = omega (arith, ap length e)

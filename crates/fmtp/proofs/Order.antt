-- The order of the entries, and the unknown ones, do not matter. Assumes nothing.
use Rattle.std.proofs.Common.{◌≡◌, ℕ, ◌+◌, ◌<◌, ◌≤◌, Bool, true, false, cond, not, ◌&&◌, ltb, List, [], ◌∷◌, length, get_or, take, is_some, Some, None, Err, Option, find, filter, count_by, sym, refl, ap, ◌∙◌, zero-add, arith}
use Rattle.std.specs.List.{list_all, list_any, position_or_len, slice_get}
use Rattle.std.specs.Str.{bytes_eq}
use Rattle.std.specs.List.Sorted.{IsPermutation}
use Rattle.std.proofs.lemmas.List.Sorted.{sum_by-IsPermutation, All-permutation, Contains-permutation, IsPermutation-sym}
use Rattle.std.proofs.lemmas.Slice.Eq.{bytes_eq-Decides}
use Rattle.std.proofs.lemmas.List.Sums.{sum_by-cons, sum_by-take-drop, sum_by-drop_more, get_or-le-sum_by, position_or_len_is, passes_at_first, AllPass-from_list_all, list_all-from_AllPass}
use Rattle.std.proofs.lemmas.List.Folds.{find_at, list_any_at}
use Rattle.std.proofs.lemmas.List.{get_or-take, length-take}
use Rattle.std.proofs.lemmas.Option.{slice_get_within, slice_get-get_or, get_or_from_slice_get}
use Rattle.std.proofs.lemmas.Bool.{both_ways, ltb-false, cond-true, cond-false}
use Rattle.std.proofs.lemmas.Bool.Decides.{same_from_decides}
use Rattle.fmtp.specs.declared.parameters.Parameter.{Parameter}
use Rattle.fmtp.specs.declared.parameters.Parameter.TheVariants.{
  Sampling,
  Depth,
  Width,
  Height,
  FrameRate,
  Colorimetry,
  Packing,
  Edition,
  Interlace,
  Segmented,
  Transfer,
  Range,
  MaxUdp,
  PixelAspect,
}
use Rattle.fmtp.specs.Lines.{EntryText, entries, well_formed}
use Rattle.fmtp.specs.Parameters.{parameter_text, parameters, parameter_of, permitted, permitted_as}
use Rattle.fmtp.specs.Reading.{has_name, entry_in, repeated, record_of, consistent, reading_entries, reading}
use Rattle.fmtp.specs.Same.{known, Legible, SameParameters}

-- elements at which a fold keeps its value may be left out
folded_kept : {X Y : Type 0} (F : List X → Y) (h : X → Y → Y) (q : X → Bool) → ((x : X) (xs : List X) → F (x ∷ xs) ≡ h x (F xs)) → ((x : X) (y : Y) → q x ≡ false → h x y ≡ y)
    → (xs : List X) → F xs ≡ F (filter q xs)
folded_kept F h q step skip [] = refl
folded_kept F h q step skip (x ∷ xs) = go (q x) refl (folded_kept F h q step skip xs)
  where
    go : (b : Bool) → q x ≡ b → F xs ≡ F (filter q xs) → F (x ∷ xs) ≡ F (cond b (x ∷ filter q xs) (filter q xs))
    go true e rec = step x xs ∙ ap (h x) rec ∙ sym (step x (filter q xs))
    go false e rec = step x xs ∙ skip x (F xs) e ∙ rec

module _ {X : Type 0} (p : X → Bool) where
  -- where one element passes at most, it is the one that is found
  only_found : (f : X) (xs : List X) (k : ℕ) → k < length xs → get_or xs k f ≡ f → p f ≡ true → count_by p xs ≤ 1 → find p xs ≡ Some f
  only_found f xs k within at passes one =
      find_at p xs
      ∙ ap (slice_get xs) (position_or_len_is p xs k f (omega arith) before (λ _. ap p at ∙ passes))
      ∙ slice_get-get_or xs k f within ∙ ap Some at
    where
      before : (j : ℕ) → j < k → p (get_or xs j f) ≡ false
      before j l = go (p (get_or xs j f)) refl
        where
          go : (b : Bool) → p (get_or xs j f) ≡ b → b ≡ false
          go false e = refl
          go true e =
              let whole = sum_by-take-drop (λ x. cond (p x) 1 0) xs k in
              let here = sum_by-drop_more (λ x. cond (p x) 1 0) xs k f within in
              let there = get_or-le-sum_by (λ x. cond (p x) 1 0) (take k xs) j f (omega (arith, length-take k xs)) in
              let first_is = ap (λ b. cond {A = ℕ} b 1 0) (ap p at ∙ passes) in
              let second_is = ap (λ b. cond {A = ℕ} b 1 0) (ap p (get_or-take k xs j f l) ∙ e) in
              absurd (omega (arith, whole, here, there, first_is, second_is))

  -- a list in another order
  count_same : (xs ys : List X) → IsPermutation xs ys → count_by p xs ≡ count_by p ys
  count_same xs ys s = sym (sum_by-IsPermutation (λ x. cond (p x) 1 0) xs ys s)

  found_too : (xs ys : List X) → IsPermutation xs ys → count_by p xs ≤ 1 → (f : X) → find p xs ≡ Some f → find p ys ≡ Some f
  found_too xs ys s one f h =
      let at : slice_get xs (position_or_len p xs) ≡ Some f = sym (find_at p xs) ∙ h in
      let within = slice_get_within xs (position_or_len p xs) f at in
      let same = get_or_from_slice_get xs (position_or_len p xs) f f at in
      let there = Contains-permutation xs ys f s (position_or_len p xs, within, same) in
      only_found f ys there.0 there.1 there.2 (sym (ap p same) ∙ passes_at_first p xs f within) (omega (arith, count_same xs ys s))

  find_same : (xs ys : List X) → IsPermutation xs ys → count_by p xs ≤ 1 → find p xs ≡ find p ys
  find_same xs ys s one = go (find p xs) (find p ys) refl refl
    where
      go : (a b : Option X) → find p xs ≡ a → find p ys ≡ b → find p xs ≡ find p ys
      go None None e g = e ∙ sym g
      go (Some f) b e g = e ∙ sym (found_too xs ys s one f e)
      go None (Some f) e g = found_too ys xs (IsPermutation-sym xs ys s) (omega (arith, count_same xs ys s)) f g ∙ sym g

  all_same : (xs ys : List X) → IsPermutation xs ys → list_all p xs ≡ list_all p ys
  all_same xs ys s = same_from_decides {P = list_all p xs ≡ true} _ _ (λ h. h, λ h. h) (
    λ h. list_all-from_AllPass p xs (All-permutation (λ x. p x ≡ true) ys xs (IsPermutation-sym xs ys s) (AllPass-from_list_all p ys h)),
    λ h. list_all-from_AllPass p ys (All-permutation (λ x. p x ≡ true) xs ys s (AllPass-from_list_all p xs h)),
  )

-- each parameter's name is known
known_name : (p : Parameter) → parameter_of (parameter_text p) ≡ Some p
known_name Sampling = refl
known_name Depth = refl
known_name Width = refl
known_name Height = refl
known_name FrameRate = refl
known_name Colorimetry = refl
known_name Packing = refl
known_name Edition = refl
known_name Interlace = refl
known_name Segmented = refl
known_name Transfer = refl
known_name Range = refl
known_name MaxUdp = refl
known_name PixelAspect = refl

-- an entry whose name is unknown is of no parameter
unknown_of_none : (p : Parameter) (e : EntryText) → is_some (parameter_of e.name) ≡ false → has_name (parameter_text p) e ≡ false
unknown_of_none p e h = go (has_name (parameter_text p) e) refl
  where
    go : (b : Bool) → has_name (parameter_text p) e ≡ b → b ≡ false
    go false s = refl
    go true s =
        let name = (bytes_eq-Decides e.name (parameter_text p)).0 s in
        absurd (both_ways _ h (ap (λ n. is_some (parameter_of n)) name ∙ ap is_some (known_name p)))

-- and it is permitted
unknown_permitted : (e : EntryText) → is_some (parameter_of e.name) ≡ false → permitted e ≡ true
unknown_permitted e h = go (parameter_of e.name) h
  where
    go : (o : Option Parameter) → is_some o ≡ false → permitted_as o e.value ≡ true
    go None h = refl
    go (Some p) h = absurd (both_ways _ h refl)

-- the list has every parameter
of_none : (f : Parameter → Bool) → list_any f parameters ≡ false → (p : Parameter) → f p ≡ false
of_none f h p = go (f p) refl
  where
    go : (b : Bool) → f p ≡ b → b ≡ false
    go false e = refl
    go true e =
        let test : Parameter → Bool = λ q. bytes_eq (parameter_text q) (parameter_text p) in
        let at : slice_get parameters (position_or_len test parameters) ≡ Some p = sym (find_at test parameters) ∙ known_name p in
        let within = slice_get_within parameters (position_or_len test parameters) p at in
        absurd (both_ways _ h (list_any_at f parameters (position_or_len test parameters) p within (ap f (get_or_from_slice_get parameters _ p p at) ∙ e)))

-- entries in another order: where no known name comes twice, each parameter has the same entry
shuffled_reading : (xs ys : List EntryText) → IsPermutation xs ys → reading_entries xs ≡ reading_entries ys
shuffled_reading xs ys s = go (repeated xs) refl
  where
    twice_same : repeated xs ≡ repeated ys
    twice_same = λ i. list_any (λ p. ltb 1 (count_same (has_name (parameter_text p)) xs ys s i)) parameters

    entry_same : repeated xs ≡ false → (p : Parameter) → entry_in xs p ≡ entry_in ys p
    entry_same h p =
        find_same (has_name (parameter_text p)) xs ys s (ltb-false 1 _ (of_none (λ p. ltb 1 (count_by (has_name (parameter_text p)) xs)) h p))

    go : (b : Bool) → repeated xs ≡ b → reading_entries xs ≡ reading_entries ys
    go true e = cond-true _ _ _ e ∙ sym (cond-true _ _ _ (sym twice_same ∙ e))
    go false e =
        cond-false _ _ _ e
        ∙ (λ i. cond (not (all_same permitted xs ys s i)) (Err 23) (consistent (record_of (λ p. entry_same e p i))))
        ∙ sym (cond-false _ _ _ (sym twice_same ∙ e))

-- entries without the unknown ones
known_reading : (es : List EntryText) → reading_entries es ≡ reading_entries (known es)
known_reading es =
    λ i. cond (list_any (λ p. ltb 1 (times p i)) parameters) (Err 22) (cond (not (permits i)) (Err 23) (consistent (record_of (λ p. first p i))))
  where
    times : (p : Parameter) → count_by (has_name (parameter_text p)) es ≡ count_by (has_name (parameter_text p)) (known es)
    times p =
        folded_kept (count_by (has_name (parameter_text p))) (λ e n. cond (has_name (parameter_text p) e) 1 0 + n) (λ e. is_some (parameter_of e.name))
        (sum_by-cons (λ e. cond (has_name (parameter_text p) e) 1 0)) (λ e n h. ap (λ b. cond b 1 0 + n) (unknown_of_none p e h) ∙ zero-add n) es

    first : (p : Parameter) → entry_in es p ≡ entry_in (known es) p
    first p =
        folded_kept (find (has_name (parameter_text p))) (λ e o. cond (has_name (parameter_text p) e) (Some e) o) (λ e. is_some (parameter_of e.name))
        (λ e es. refl) (λ e o h. ap (λ b. cond b (Some e) o) (unknown_of_none p e h)) es

    permits : list_all permitted es ≡ list_all permitted (known es)
    permits = folded_kept (list_all permitted) (λ e b. permitted e && b) (λ e. is_some (parameter_of e.name)) (λ e es. refl) (λ e b h. ap (λ c. c && b) (unknown_permitted e h)) es

pub legible_reading : (line : List ℕ) → Legible line → reading line ≡ reading_entries (entries line)
legible_reading line h =
    cond-false _ (Err 20) _ h.short ∙ cond-false (not (well_formed line)) (Err 21) _ (ap not h.formed)

pub same_answer : (a b : List ℕ) → SameParameters a b → reading a ≡ reading b
same_answer a b s =
    legible_reading a s.first ∙ known_reading (entries a) ∙ shuffled_reading _ _ s.entries_same ∙ sym (known_reading (entries b))
    ∙ sym (legible_reading b s.second)

-- Searches and sums over the numbers below another, as iterators and as the definitions have them. Assumes nothing.
use Rattle.std.proofs.Common.{◌≡◌, ℕ, zero, suc, ◌+◌, ◌<◌, Bool, true, false, MatchBool, List, map, length, sum, sym, refl, ap, ◌∙◌, add-one, zero-add, arith}
use Rattle.std.specs.List.{range_with_len, HoldsAt, AllWithin}
use Rattle.std.proofs.lemmas.List.FromFn.{length-range_with_len, get_or-range_with_len, sum_by-map-range_with_len_more}
use Rattle.theory.specs.Octets.{any_below}
use Rattle.theory.specs.Packets.{srd_length, lengths}
use Rattle.theory.proofs.Searches.{any_below_from, none_below}

abbrev below : ℕ → List ℕ
below n = range_with_len 0 n

module _ (f : ℕ → Bool) where
  abbrev pub Passes : ℕ → Type 0
  Passes i = f i ≡ true

  abbrev pub Fails : ℕ → Type 0
  Fails i = f i ≡ false

  -- whether one of them passes
  pub searched : (n : ℕ) (r : Bool)
      → MatchBool r ((k : ℕ) × (k < length (below n)) × HoldsAt Passes (below n) k) (AllWithin Fails (below n) 0 (length (below n)))
      → r ≡ any_below n f
  searched n true h =
      let l : h.0 < n = omega (arith, h.1, length-range_with_len 0 n) in
      sym (any_below_from f n h.0 l (ap f (sym (get_or-range_with_len 0 n h.0 0 l ∙ zero-add h.0)) ∙ h.2 0))
  searched n false h =
      sym (none_below f n (λ k l. ap f (sym (get_or-range_with_len 0 n k 0 l ∙ zero-add k)) ∙ h k 0 (omega arith) (omega (arith, l, length-range_with_len 0 n))))

-- the lengths of the first n segments
pub lengths_summed : (q : List ℕ) (n : ℕ) → sum (map (srd_length q) (below n)) ≡ lengths q n
lengths_summed q zero = refl
lengths_summed q (suc n) =
    ap (λ m. sum (map (srd_length q) (below m))) (sym (add-one n))
    ∙ sum_by-map-range_with_len_more (λ x. x) (srd_length q) 0 n n (zero-add n)
    ∙ ap (λ s. s + srd_length q n) (lengths_summed q n)

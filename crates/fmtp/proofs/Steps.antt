-- What `and_then` and `?` give, one step after another. Assumes nothing.
use Rattle.std.proofs.Common.{◌≡◌, List, ℕ, Option, Some, None, MatchOption, Bor, sym, ap, ◌∙◌}
use Rattle.std.specs.Option.{option_map}
use Rattle.fmtp.specs.Decimals.{◌>>=◌}

-- what `and_then` gives of octets, where it is known what the function that it calls gives
pub gives : {A : Type 0} (f : List ℕ → Option A) {P : Bor (List ℕ) → Type 0} {w : Option (List ℕ)} (o : Option (Bor (List ℕ))) (r : Option A)
    → option_map (λ x. x.now) o ≡ w → MatchOption o (r ≡ None) P → ((x : Bor (List ℕ)) → P x → r ≡ f x.now) → r ≡ (w >>= f)
gives f None r e h p = h ∙ ap (λ o. o >>= f) e
gives f (Some x) r e h p = p x h ∙ ap (λ o. o >>= f) e

module _ {A B : Type 0} {o r : Option A} (f : A → Option B) where
  -- a step that gave a value, and one that gave none
  pub goes_on : {x : A} {end : Option B} → r ≡ o → r ≡ Some x → f x ≡ end → (o >>= f) ≡ end
  goes_on is was rest = ap (λ o. o >>= f) (sym is ∙ was) ∙ rest

  pub ends : r ≡ o → r ≡ None → (o >>= f) ≡ None
  ends is was = ap (λ o. o >>= f) (sym is ∙ was)

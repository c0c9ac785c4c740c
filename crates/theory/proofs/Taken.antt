-- The packets that a run has taken: those offered that are not refused, and the groups that they name.
use Rattle.std.proofs.Common.{◌≡◌, ℕ, ◌*◌, ◌/◌, ◌%◌, ◌^◌, ◌<◌, ◌≤◌, Bool, true, false, cond, ◌||◌, eqb, ◌⊎◌, List, [], ◌∷◌, ◌++◌, length, Some, None, Option, sym, refl, ap, ◌∙◌, subst, inl, inr, ⊎_elim, arith}
use native.Mathlib.Nat.{zero-div}
use mathlib.Core.List.Memᴰ
use mathlib.Core.List.{Memᴰ}
use Rattle.std.proofs.lemmas.List.{get_or_past}
use Rattle.std.proofs.lemmas.Bool.{cases_Bool, cases_lt}
use Rattle.theory.specs.Answers.{is_none}
use Rattle.theory.specs.Octets.{bit}
use Rattle.theory.specs.Formats.{groups}
use Rattle.theory.specs.Pictures.{Picture}
use Rattle.theory.specs.Taking.{offer_refusal, set_count, opened_map}
use Rattle.theory.specs.Runs.{Event, Start, Reached, opened, offered, counted, packets_offered, packets_taken, refusal, some_names}
use Rattle.theory.proofs.Named.{found}
use Rattle.theory.proofs.Readable.{named_below}
use Rattle.theory.proofs.Kept.{refusal_kept, takes_more, length_kept, length_opened, all_bits}

-- members of a list with one more at its end
member_last : (qs : List (List ℕ)) (x q : List ℕ) → q ≡ x → Memᴰ q (qs ++ x ∷ [])
member_last [] x q e = Memᴰ.head e
member_last (y ∷ ys) x q e = Memᴰ.tail (member_last ys x q e)

member_before : (qs : List (List ℕ)) (x q : List ℕ) → Memᴰ q qs → Memᴰ q (qs ++ x ∷ [])
member_before [] x q h = absurd (Memᴰ.not-nil h)
member_before (y ∷ ys) x q h = ⊎_elim (λ e. Memᴰ.head e) (λ k. Memᴰ.tail (member_before ys x q k)) (Memᴰ.cases_cons h)

cases_last : (qs : List (List ℕ)) (x q : List ℕ) → Memᴰ q (qs ++ x ∷ []) → Memᴰ q qs ⊎ (q ≡ x)
cases_last qs x q h = ⊎_elim (λ k. inl k) (λ k. inr (Memᴰ.eq_of_singleton k)) (Memᴰ.append_cases qs h)

-- an offered packet that is not refused is one of the taken
pub taken_of_offered : {s : Start} {es : List Event} {v : Picture} {m : List ℕ} → Reached s es v m → (q : List ℕ) → refusal s q ≡ None
    → Memᴰ q (packets_offered es) → Memᴰ q (packets_taken es)
taken_of_offered opened q e h = h
taken_of_offered {s} (offered {es = es} {v = v} {m = m} r x) q e h =
    subst (Memᴰ q) (sym (takes_more (offer_refusal s.part v m x) (set_count s.part v m x) x es)) (⊎_elim
    (λ k. more (is_none (offer_refusal s.part v m x)) (taken_of_offered r q e k))
    (λ k. subst (λ b. Memᴰ q (cond b (packets_taken es ++ x ∷ []) (packets_taken es)))
    (sym (ap is_none (refusal_kept r x ∙ ap (refusal s) (sym k) ∙ e))) (member_last (packets_taken es) x q k))
    (cases_last (packets_offered es) x q h))
  where
    more : (b : Bool) → Memᴰ q (packets_taken es) → Memᴰ q (cond b (packets_taken es ++ x ∷ []) (packets_taken es))
    more true k = member_before (packets_taken es) x q k
    more false k = k
taken_of_offered (counted r) q e h = taken_of_offered r q e h

-- and a taken one was offered, and is not refused
pub offered_of_taken : {s : Start} {es : List Event} {v : Picture} {m : List ℕ} → Reached s es v m → (q : List ℕ)
    → Memᴰ q (packets_taken es)
    → Memᴰ q (packets_offered es) × (refusal s q ≡ None)
offered_of_taken opened q h = absurd (Memᴰ.not-nil h)
offered_of_taken {s} (offered {es = es} {v = v} {m = m} r x) q h =
    go (offer_refusal s.part v m x) refl (λ k. offered_of_taken r q k)
    (subst (Memᴰ q) (takes_more (offer_refusal s.part v m x) (set_count s.part v m x) x es) h)
  where
    go : (o : Option ℕ) → offer_refusal s.part v m x ≡ o
        → (Memᴰ q (packets_taken es) → Memᴰ q (packets_offered es) × (refusal s q ≡ None))
        → Memᴰ q (cond (is_none o) (packets_taken es ++ x ∷ []) (packets_taken es))
        → Memᴰ q (packets_offered es ++ x ∷ []) × (refusal s q ≡ None)
    go None e f k = ⊎_elim
        (λ n. (member_before (packets_offered es) x q (f n).0, (f n).1))
        (λ same. (member_last (packets_offered es) x q same, ap (refusal s) same ∙ sym (refusal_kept r x) ∙ e))
        (cases_last (packets_taken es) x q k)
    go (Some row) e f k = (member_before (packets_offered es) x q (f k).0, (f k).1)
offered_of_taken (counted r) q h = offered_of_taken r q h

-- a taken packet names groups of the part alone
taken_below : {s : Start} {es : List Event} {v : Picture} {m : List ℕ} → Reached s es v m → (k : ℕ)
    → some_names s.part (packets_taken es) k ≡ true → k < groups s.part
taken_below {s} {es} r k h =
    let f = found s.part k (packets_taken es) h in
    named_below s.part s.lawful_part.lawful_kind s.picture s.map f.packet
    (ap is_none (offered_of_taken r f.packet f.among).1) k f.naming

-- past the map there is no bit
no_bit : (m : List ℕ) (k : ℕ) → 8 * length m ≤ k → bit m k ≡ false
no_bit m k h = ap (λ x. eqb ((x / 2 ^ (k % 8)) % 2) 1) (get_or_past m (k / 8) 0 (omega arith)) ∙ ap (λ x. eqb (x % 2) 1) (zero-div (2 ^ (k % 8)))

-- the other bits of the map are those that the opening left
pub other_bits : {s : Start} {es : List Event} {v : Picture} {m : List ℕ} → Reached s es v m → (k : ℕ) → groups s.part ≤ k
    → bit m k ≡ bit (opened_map s.part s.map) k
other_bits {s} {es} {v} {m} r k h = ⊎_elim
    (λ l. all_bits r k l ∙ ap (λ b. b || bit (opened_map s.part s.map) k)
    (⊎_elim (λ e. absurd (omega (arith, taken_below r k e))) (λ e. e) (cases_Bool (some_names s.part (packets_taken es) k))))
    (λ l. no_bit m k (omega (arith, length_kept r)) ∙ sym (no_bit (opened_map s.part s.map) k (omega (arith, length_opened s))))
    (cases_lt k (8 * length s.map))

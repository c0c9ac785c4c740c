-- Packet after packet, to the end of a part.
use Rattle.std.proofs.Common.{◌≡◌, ℕ, zero, suc, ◌+◌, ◌-◌, ◌<◌, ◌≤◌, Bool, true, false, cond, not, is_some, List, [], ◌∷◌, ◌++◌, length, take, drop, Some, None, Ok, Option, sym, refl, ap, ◌∙◌, subst, ⊎_elim, append_assoc, arith}
use Rattle.std.proofs.lemmas.List.{take_at}
use Rattle.std.proofs.lemmas.Bool.{cases_Bool, cond-true, cond-false, leb-false}
use Rattle.theory.specs.Formats.{Part, groups}
use Rattle.theory.specs.Pictures.{Picture}
use Rattle.theory.specs.Cutting.{packet, is_last, after_packet, next_sequence, packets_from, whole_part}
use Rattle.theory.proofs.Limits.{Limits, groups_pos}
use Rattle.theory.proofs.Written.{after_more}
use Rattle.sender.specs.declared.sending.Step.{Step}
use Rattle.sender.specs.declared.sending.Step.TheVariants.{More, Last}
use Rattle.sender.specs.Drawing.{State, step_of}
use Rattle.sender.specs.Plans.{following, outcome_of}
use Rattle.sender.specs.Wholes.{Drawn, opened, drawn, IfLast}

module _ (t : Part) (w : Limits t) (v : Picture) where
  -- where a packet is not the last, the next one begins further on, and inside the part
  goes_on : (g : ℕ) → g < groups t → is_last t g ≡ false → (g < after_packet t g) × (after_packet t g < groups t)
  goes_on g h e = (after_more t w g h, leb-false (groups t) (after_packet t g) e)

  -- as many packets as there are groups left are enough
  enough : (n m seq g : ℕ) → g < groups t → groups t ≤ g + n → groups t ≤ g + m → packets_from t v n seq g ≡ packets_from t v m seq g
  enough zero m seq g h a b = absurd (omega arith)
  enough (suc n) zero seq g h a b = absurd (omega arith)
  enough (suc n) (suc m) seq g h a b =
      let next : ℕ = after_packet t g in
      let s : ℕ = next_sequence seq in
      ap (λ ps. packet t v seq g ∷ ps)
      (⊎_elim
      (λ e. cond-true (is_last t g) [] (packets_from t v n s next) e ∙ sym (cond-true (is_last t g) [] (packets_from t v m s next) e))
      (λ e.
      let on = goes_on g h e in
      ap (λ ps. cond (is_last t g) [] ps) (enough n m s next on.1 (omega (arith, on.0)) (omega (arith, on.0))))
      (cases_Bool (is_last t g)))

  -- the packets from group g to the end of the part
  rest : ℕ → ℕ → List (List ℕ)
  rest seq g = packets_from t v (groups t - g) seq g

  rest_more : (seq g : ℕ) → g < groups t → is_last t g ≡ false → rest seq g ≡ packet t v seq g ∷ rest (next_sequence seq) (after_packet t g)
  unfolding rest
  rest_more seq g h e =
      let next : ℕ = after_packet t g in
      let s : ℕ = next_sequence seq in
      let on = goes_on g h e in
      let n : groups t - g ≡ suc (groups t - g - 1) = omega arith in
      ap (λ k. packets_from t v k seq g) n
      ∙ ap (λ ps. packet t v seq g ∷ ps)
      (cond-false (is_last t g) [] (packets_from t v (groups t - g - 1) s next) e
      ∙ enough (groups t - g - 1) (groups t - next) s next on.1 (omega (arith, on.0)) (omega (arith, on.0)))

  rest_last : (seq g : ℕ) → g < groups t → is_last t g ≡ true → rest seq g ≡ packet t v seq g ∷ []
  unfolding rest
  rest_last seq g h e =
      let n : groups t - g ≡ suc (groups t - g - 1) = omega arith in
      ap (λ k. packets_from t v k seq g) n
      ∙ ap (λ ps. packet t v seq g ∷ ps)
      (cond-true (is_last t g) [] (packets_from t v (groups t - g - 1) (next_sequence seq) (after_packet t g)) e)

  -- the packets drawn so far, and then the rest, are the whole part
  so_far : {first : ℕ} {ps : List (List ℕ)} {seq g : ℕ} → Drawn t v first ps seq g → (g < groups t) × (ps ++ rest seq g ≡ whole_part t v first)
  unfolding rest
  so_far {first} opened = let all : groups t - 0 ≡ groups t = omega arith in (groups_pos t w, ap (λ n. packets_from t v n first 0) all)
  so_far (drawn {ps} {seq} {g} d e) =
      let r = so_far d in
      let q : List ℕ = packet t v seq g in
      let behind : List (List ℕ) = rest (next_sequence seq) (after_packet t g) in (
        (goes_on g r.0 e).1,
        append_assoc ps (q ∷ []) behind ∙ ap (λ xs. ps ++ xs) (sym (rest_more seq g r.0 e)) ∙ r.1,
      )

  pub whole_with_last : {first : ℕ} {ps : List (List ℕ)} {seq g : ℕ} → Drawn t v first ps seq g → is_last t g ≡ true
      → ps ++ (packet t v seq g ∷ []) ≡ whole_part t v first
  whole_with_last {first} {ps} {seq} {g} d e = let r = so_far d in ap (λ xs. ps ++ xs) (sym (rest_last seq g r.0 e)) ∙ r.1

-- the packet that stands at the start of a buffer
pub front : (q old out : List ℕ) (n : ℕ) → length q ≡ n → out ≡ q ++ drop (length q) old → take n out ≡ q
front q old out n e is = ap (take n) is ∙ take_at q (drop (length q) old) n e

-- a step is the last one where no packet follows
pub at_last : {K : Type 0} (r : Step K) (P : ℕ → Type 0) (s : State K) (n : ℕ) (next : Option ℕ) → step_of r ≡ outcome_of s n next
    → (next ≡ None → P n) → IfLast (Ok r) P
at_last (More x m) P s n next e h = tt
at_last (Last x m) P s n None e h = let z : n ≡ m = cc in subst P z (h refl)
at_last (Last x m) P s n (Some g) e h = absurd (let z : ◌≡◌ {A = ℕ} 0 1 = cc in omega arith)

pub last_when : (t : Part) (g : ℕ) → following t g ≡ None → is_last t g ≡ true
last_when t g e = go (is_last t g) e
  where
    go : (b : Bool) → cond b None (Some (after_packet t g)) ≡ None → b ≡ true
    go true e = refl
    go false e = absurd (let z : ◌≡◌ {A = ℕ} 0 1 = cc in omega arith)

-- no packet follows the last one
pub none_follows : (t : Part) (g : ℕ) {r : Option ℕ} {b : Bool} → is_some r ≡ not b → r ≡ following t g → b ≡ is_last t g
none_follows t g {r} {b} e is = go (is_last t g) b (after_packet t g) (ap is_some (sym is) ∙ e)
  where
    go : (a b : Bool) (x : ℕ) → is_some (cond a None (Some x)) ≡ not b → b ≡ a
    go true true x e = refl
    go true false x e = absurd (let z : ◌≡◌ {A = ℕ} 0 1 = cc in omega arith)
    go false false x e = refl
    go false true x e = absurd (let z : ◌≡◌ {A = ℕ} 0 1 = cc in omega arith)

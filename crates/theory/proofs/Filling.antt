-- Filling a picture: nothing, the same, one filling after another, and one sample more; an offer fills the picture.
use Rattle.std.proofs.Common.{◌≡◌, ℕ, ◌^◌, ◌<◌, Bool, true, false, cond, not, ◌&&◌, ◌||◌, eqb, leb, List, Some, None, sym, refl, ap, ◌∙◌, ap₂, ⊎_elim}
use mathlib.Core.Path.{fun_ext}
use Rattle.std.proofs.lemmas.Bool.{cases_Bool, both_ways, cond-true, cond-false, and_from, and_parts, and_right, eqb-true, eq-eqb, lt-leb}
use Rattle.theory.specs.Formats.{Part, layout_of}
use Rattle.theory.specs.Pictures.{Picture, inside, with_samples, put, put_after}
use Rattle.theory.specs.Answers.{is_none}
use Rattle.theory.specs.Groups.{group_of, position_in_group, filled, value_at}
use Rattle.theory.specs.Taking.{octets_of, sets, picture_after}

-- a put inside of a value below 2 ^ depth is taken, and a put outside is refused
pub put_taken : (v : Picture) (p r c x : ℕ) → inside v p r c ≡ true → x < 2 ^ v.depth → put_after v p r c x ≡ put v p r c x
put_taken v p r c x i h =
    ap₂ (λ a b. cond (is_none (cond (not a) (Some 1) (cond b (Some 2) None))) (put v p r c x) v) i (lt-leb (2 ^ v.depth) x h)

pub put_refused : (v : Picture) (p r c x : ℕ) → inside v p r c ≡ false → put_after v p r c x ≡ v
put_refused v p r c x o = ap (λ a. cond (is_none (cond (not a) (Some 1) (cond (leb (2 ^ v.depth) x) (Some 2) None))) (put v p r c x) v) o

-- an offer fills the groups that it sets from the packet
pub offer_fills : (t : Part) (v : Picture) (m q : List ℕ)
    → picture_after t v m q ≡ filled t v (λ g _. sets t v m q g) (λ g k. value_at (layout_of t.format) t.format.depth (octets_of t q g) k)
offer_fills t v m q = refl

same_at : (i a b : Bool) (y z o : ℕ) → (i ≡ true → a ≡ b) → (b ≡ true → y ≡ z) → cond (i && a) y o ≡ cond (i && b) z o
same_at false a b y z o h k = refl
same_at true a true y z o h k = ap (λ x. cond x y o) (h refl) ∙ k refl
same_at true a false y z o h k = ap (λ x. cond x y o) (h refl)

join_at : (i w x : Bool) (e f d o : ℕ) → (x ≡ true → e ≡ d) → (x ≡ false → w ≡ true → f ≡ d)
    → cond (i && x) e (cond (i && w) f o) ≡ cond (i && (w || x)) d o
join_at false w x e f d o h k = refl
join_at true true true e f d o h k = h refl
join_at true false true e f d o h k = h refl
join_at true true false e f d o h k = k refl refl
join_at true false false e f d o h k = refl

pub filled_none : (t : Part) (v : Picture) (w : ℕ → ℕ → Bool) (f : ℕ → ℕ → ℕ) → ((g k : ℕ) → w g k ≡ false) → v ≡ filled t v w f
filled_none t v w f h =
    ap (with_samples v) (fun_ext (λ p. fun_ext (λ r. fun_ext (λ c.
    sym (cond-false (inside v p r c && w (group_of t p r c) (position_in_group t p r c)) (f (group_of t p r c) (position_in_group t p r c))
    (v.sample p r c)
    (and_right (inside v p r c) (w (group_of t p r c) (position_in_group t p r c)) (h (group_of t p r c) (position_in_group t p r c))))))))

-- the choice matters at places inside alone, and the values where they are chosen
pub filled_same : (t : Part) (v : Picture) (w x : ℕ → ℕ → Bool) (f e : ℕ → ℕ → ℕ)
    → ((p r c : ℕ) → inside v p r c ≡ true → w (group_of t p r c) (position_in_group t p r c) ≡ x (group_of t p r c) (position_in_group t p r c))
    → ((g k : ℕ) → x g k ≡ true → f g k ≡ e g k) → filled t v w f ≡ filled t v x e
filled_same t v w x f e h k =
    ap (with_samples v) (fun_ext (λ p. fun_ext (λ r. fun_ext (λ c.
    let g = group_of t p r c in
    let n = position_in_group t p r c in
    same_at (inside v p r c) (w g n) (x g n) (f g n) (e g n) (v.sample p r c) (h p r c) (k g n)))))

-- one filling after another
pub filled_twice : (t : Part) (v : Picture) (w x : ℕ → ℕ → Bool) (f e d : ℕ → ℕ → ℕ)
    → ((g k : ℕ) → x g k ≡ true → e g k ≡ d g k) → ((g k : ℕ) → x g k ≡ false → w g k ≡ true → f g k ≡ d g k)
    → filled t (filled t v w f) x e ≡ filled t v (λ g k. w g k || x g k) d
filled_twice t v w x f e d h k =
    ap (with_samples v) (fun_ext (λ p. fun_ext (λ r. fun_ext (λ c.
    let g = group_of t p r c in
    let n = position_in_group t p r c in
    join_at (inside v p r c) (w g n) (x g n) (e g n) (f g n) (d g n) (v.sample p r c) (h g n) (k g n)))))

-- one sample more: the choice grows by the one place, if that is inside
pub put_next : (t : Part) (v : Picture) (w x : ℕ → ℕ → Bool) (f : ℕ → ℕ → ℕ) (p r c y : ℕ) → y < 2 ^ v.depth
    → x (group_of t p r c) (position_in_group t p r c) ≡ true
    → y ≡ f (group_of t p r c) (position_in_group t p r c)
    → ((q s d : ℕ) → inside v q s d ≡ true → ((q ≡ p) × (s ≡ r) × (d ≡ c) → ⊥)
    → w (group_of t q s d) (position_in_group t q s d) ≡ x (group_of t q s d) (position_in_group t q s d))
    → put_after (filled t v w f) p r c y ≡ filled t v x f
put_next t v w x f p r c y small here value other =
    let old = filled t v w f in
    ⊎_elim
    (λ i. put_taken old p r c y i small ∙ ap (with_samples v) (fun_ext (λ q. fun_ext (λ s. fun_ext (λ d. at i q s d)))))
    (λ o. put_refused old p r c y o
    ∙ filled_same t v w x f f (λ q s d j. other q s d j (λ e. both_ways (inside v p r c) o (moved_true e j))) (λ _ _ _. refl))
    (cases_Bool (inside v p r c))
  where
    moved : {A : Type 0} (G : ℕ → ℕ → ℕ → A) (q s d : ℕ) → q ≡ p → s ≡ r → d ≡ c → G p r c ≡ G q s d
    moved G q s d e₁ e₂ e₃ = cc

    moved_true : {q s d : ℕ} → (q ≡ p) × (s ≡ r) × (d ≡ c) → inside v q s d ≡ true → inside v p r c ≡ true
    moved_true {q} {s} {d} e j = moved (inside v) q s d e.0 e.1 e.2 ∙ j

    there : inside v p r c ≡ true → y ≡ (filled t v x f).sample p r c
    there i =
        let g = group_of t p r c in
        let n = position_in_group t p r c in
        value ∙ sym (cond-true (inside v p r c && x g n) (f g n) (v.sample p r c) (and_from (inside v p r c) (x g n) i here))

    at : inside v p r c ≡ true → (q s d : ℕ) → (put (filled t v w f) p r c y).sample q s d ≡ (filled t v x f).sample q s d
    at i q s d =
        let same = eqb q p && eqb s r && eqb d c in
        let g = group_of t q s d in
        let n = position_in_group t q s d in
        let then = (filled t v w f).sample q s d in
        ⊎_elim
        (λ e.
        let one = and_parts (eqb q p && eqb s r) (eqb d c) e in
        let two = and_parts (eqb q p) (eqb s r) one.0 in
        cond-true same y then e
        ∙ there i
        ∙ moved (filled t v x f).sample q s d (eqb-true q p two.0) (eqb-true s r two.1) (eqb-true d c one.1))
        (λ e.
        let apart : (q ≡ p) × (s ≡ r) × (d ≡ c) → ⊥ = λ z.
        both_ways same e (and_from (eqb q p && eqb s r) (eqb d c) (and_from (eqb q p) (eqb s r) (eq-eqb q p z.0) (eq-eqb s r z.1)) (eq-eqb d c z.2)) in
        cond-false same y then e
        ∙ same_at (inside v q s d) (w g n) (x g n) (f g n) (f g n) (v.sample q s d) (λ j. other q s d j apart) (λ _. refl))
        (cases_Bool same)

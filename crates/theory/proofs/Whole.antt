-- The law's clause on a whole part's packets.
use Rattle.std.proofs.Common.{◌≡◌, ℕ, zero, suc, ◌+◌, ◌^◌, ◌<◌, ◌≤◌, true, false, not, ◌&&◌, ltb, leb, List, [], ◌∷◌, length, get_or, Ok, sym, refl, ap, ◌∙◌, subst, inl, inr, ⊎_elim, add-one, arith}
use mathlib.Core.Path.{fun_ext}
use mathlib.Core.List.{Memᴰ}
use Rattle.std.proofs.lemmas.Bool.{cases_lt, cases_Bool, cond-false, and_from, not_from_true, leb-true, le-leb, lt-ltb}
use Rattle.theory.specs.Formats.{Part, groups, map_octets}
use Rattle.theory.specs.Pictures.{Picture, LawfulPicture, SameSizes, inside, fits_part, with_samples}
use Rattle.theory.specs.Groups.{group_of}
use Rattle.theory.specs.Taking.{names, count_answer}
use Rattle.theory.specs.Cutting.{whole_part}
use Rattle.theory.specs.Wholes.{WholePart}
use Rattle.theory.specs.Runs.{Event, Start, Reached, packets_offered, packets_taken, earliest, some_names, sample_from, Agree}
use Rattle.theory.proofs.Limits.{Limits, limits}
use Rattle.theory.proofs.Places.{reads_back, place_inside, group_inside}
use Rattle.theory.proofs.Parts.{parts_are_whole}
use Rattle.theory.proofs.Refusals.{not_refused}
use Rattle.theory.proofs.Named.{count_none, Found, found, named_since}
use Rattle.theory.proofs.Kept.{shape, samples, all_samples, count_is}
use Rattle.theory.proofs.Taken.{taken_of_offered}

inside_same : (v u : Picture) → v.width ≡ u.width → v.height ≡ u.height → (p r c : ℕ) → inside v p r c ≡ inside u p r c
inside_same v u e f p r c = ap (λ x. ltb r (x p) && ltb c (v.width p)) f ∙ ap (λ x. ltb r (u.height p) && ltb c (x p)) e

-- two pictures with the same sizes, depth and samples are one
pub same_pictures : (v u : Picture) → v.planes ≡ u.planes → ((p : ℕ) → v.width p ≡ u.width p) → ((p : ℕ) → v.height p ≡ u.height p)
    → v.depth ≡ u.depth
    → ((p r c : ℕ) → v.sample p r c ≡ u.sample p r c) → v ≡ u
same_pictures v u a b c d e = λ i. record { planes = a i; width = λ p. b p i; height = λ p. c p i; depth = d i; sample = λ p r x. e p r x i }

-- the run that holds a number
run_of : (b : ℕ → ℕ) (n h : ℕ) → b 0 ≤ h → h < b n → (i : ℕ) × (i < n) × (b i ≤ h) × (h < b (i + 1))
run_of b zero h l u = absurd (omega arith)
run_of b (suc n) h l u = elim (cases_lt h (b n)) [
  | inl k ↦ let r = run_of b n h l k in (r.0, omega (arith, r.1), r.2, r.3)
  | inr k ↦ (n, omega arith, k, subst (λ x. h < b x) (sym (add-one n)) u)
]

nth_member : (qs : List (List ℕ)) (i : ℕ) → i < length qs → Memᴰ (get_or qs i []) qs
nth_member [] i h = absurd (omega arith)
nth_member (q ∷ qs) zero h = Memᴰ.head refl
nth_member (q ∷ qs) (suc i) h = Memᴰ.tail (nth_member qs i (omega arith))

module _ (s : Start) (es : List Event) (v : Picture) (m : List ℕ) (reached : Reached s es v m)
    (sent : Picture) (seq : ℕ) (lawful : LawfulPicture sent) (sent-fits : fits_part sent s.part ≡ true) (sizes : SameSizes sent v)
    (qs : List (List ℕ)) (parts : WholePart s.part sent seq qs)
    (among : (q : List ℕ) → Memᴰ q qs → Memᴰ q (packets_offered es))
    (agree : (q r : List ℕ) → Memᴰ q (packets_taken es) → Memᴰ r qs → Agree s.part q r)
  where
    w : Limits s.part
    w = limits s.part s.lawful_part

    -- the store fits the part as well
    start_fits : fits_part s.picture s.part ≡ true
    start_fits =
        sym (ap (λ x. fits_part x s.part) (shape reached))
        ∙ sym (ap (λ x. fits_part x s.part) (same_pictures (with_samples sent v.sample) v sizes.planes sizes.width
        sizes.height sizes.depth (λ p r c. refl)))
        ∙ sent-fits

    -- some packet of the whole part names the group, and was taken
    taken_for : (g : ℕ) → g < groups s.part
        → (i : ℕ) × (i < length qs) × (names s.part (get_or qs i []) g ≡ true) × Memᴰ (get_or qs i []) (packets_taken es)
    taken_for g l =
        let n = run_of parts.begin (length qs) g (omega (arith, parts.begin_first)) (omega (arith, parts.begin_last)) in
        let i = n.0 in
        let names-it : names s.part (get_or qs i []) g ≡ true =
        (parts.each i n.1).named g ∙ and_from (leb (parts.begin i) g) (ltb g (parts.begin (i + 1))) (le-leb (parts.begin i) g n.2)
        (lt-ltb g (parts.begin (i + 1)) n.3) in (
          i,
          n.1,
          names-it,
          taken_of_offered reached (get_or qs i [])
              (not_refused s.part s.picture s.map (get_or qs i []) s.lawful_part.format_allowed start_fits
              (leb-true (map_octets s.part) (length s.map) s.map_long) (parts.each i n.1).allowed)
              (among (get_or qs i []) (nth_member qs i n.1)),
        )

    inside_both : (p r c : ℕ) → inside v p r c ≡ inside sent p r c
    inside_both p r c = sym (inside_same sent v (fun_ext sizes.width) (fun_ext sizes.height) p r c)

    -- a place inside: the earliest taken packet that names its group agrees with the one of the whole part that does
    sample_shown : (p r c i : ℕ) → inside sent p r c ≡ true → i < length qs
        → names s.part (get_or qs i []) (group_of s.part p r c) ≡ true
        → Found s.part (group_of s.part p r c) (packets_taken es)
        → sample_from s p r c (earliest s.part (group_of s.part p r c) (packets_taken es)) ≡ sent.sample p r c
    sample_shown p r c i here l n f =
        let same = agree f.packet (get_or qs i []) f.among (nth_member qs i l) (group_of s.part p r c) f.naming n in
        ap (sample_from s p r c) f.first ∙ reads_back s.part w.layout sent lawful sent-fits p r c here f.packet
        (same ∙ (parts.each i l).carried (group_of s.part p r c) n)

    sample_inside : (p r c : ℕ) → inside v p r c ≡ true → v.sample p r c ≡ sent.sample p r c
    sample_inside p r c i =
        let t : Part = s.part in
        let g : ℕ = group_of t p r c in
        let here : inside sent p r c ≡ true = sym (inside_both p r c) ∙ i in
        let at = place_inside t w.layout sent lawful sent-fits p r c here in
        let n = taken_for g (group_inside t w.layout p r c at.0 at.1 at.2) in
        samples reached p r c i ∙ sample_shown p r c n.0 here n.1 n.2
        (found t g (packets_taken es) (named_since t g (packets_taken es) (get_or qs n.0 []) n.3 n.2))

    sample_outside : (p r c : ℕ) → inside v p r c ≡ false → v.sample p r c ≡ sent.sample p r c
    sample_outside p r c o =
        let o' : inside s.picture p r c ≡ false = sym (ap (λ x. inside x p r c) (shape reached)) ∙ o in
        all_samples reached p r c
        ∙ cond-false (inside s.picture p r c) (sample_from s p r c (earliest s.part (group_of s.part p r c) (packets_taken es)))
        (s.picture.sample p r c) o'
        ∙ s.lawful_picture.outside p r c o' ∙ sym (lawful.outside p r c (sym (inside_both p r c) ∙ o))

    shows_sent : (v ≡ sent) × (count_answer s.part m ≡ Ok 0)
    shows_sent = (
      sym (same_pictures sent v sizes.planes sizes.width sizes.height sizes.depth
          (λ p r c. sym (⊎_elim (sample_inside p r c) (sample_outside p r c) (cases_Bool (inside v p r c))))),
      count_is reached ∙ ap Ok (count_none (groups s.part) (λ g. not (some_names s.part (packets_taken es) g))
          (λ g l. let n = taken_for g l in not_from_true _ (named_since s.part g (packets_taken es) (get_or qs n.0 []) n.3 n.2))),
    )

-- the clause as the law has it
pub whole_clause : {s : Start} {es : List Event} {v : Picture} {m : List ℕ} → Reached s es v m
    → (sent : Picture) (seq : ℕ) → seq < 2 ^ 32 → LawfulPicture sent → fits_part sent s.part ≡ true → SameSizes sent v
    → ((q : List ℕ) → Memᴰ q (whole_part s.part sent seq) → Memᴰ q (packets_offered es))
    → ((q r : List ℕ) → Memᴰ q (packets_taken es) → Memᴰ r (whole_part s.part sent seq) → Agree s.part q r)
    → (v ≡ sent) × (count_answer s.part m ≡ Ok 0)
whole_clause {s} {es} {v} {m} reached sent seq h lawful fits sizes =
    shows_sent s es v m reached sent seq lawful fits sizes (whole_part s.part sent seq)
    (parts_are_whole s.part sent seq s.lawful_part lawful fits h)

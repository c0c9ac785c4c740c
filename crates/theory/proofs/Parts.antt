-- The packets of a whole part, one after another.
use Rattle.std.proofs.Common.{◌≡◌, ℕ, zero, suc, ◌+◌, ◌*◌, ◌/◌, ◌%◌, ◌^◌, ◌<◌, ◌≤◌, true, eqb, List, [], ◌∷◌, length, get_or, sym, refl, ap, ◌∙◌, subst, ⊎_elim, mul-le-mul_right, add-mul, div-add-mod', add-one, arith}
use Rattle.std.proofs.lemmas.Bool.{cases_eq, cond_both, leb-true, leb-false, le-leb, lt-leb, eq-eqb, ne_eqb}
use Rattle.std.proofs.lemmas.Nat.{div_below}
use Rattle.theory.specs.Formats.{Part, row_groups, unit_rows, groups, LawfulPart}
use Rattle.theory.specs.Pictures.{Picture, LawfulPicture, fits_part}
use Rattle.theory.specs.Cutting.{Segment, cut, cut_groups, after_packet, is_last, packet, packets_from, whole_part}
use Rattle.theory.specs.Wholes.{Carries, WholePart}
use Rattle.theory.proofs.Framing.{PartFits}
use Rattle.theory.proofs.Limits.{Limits, limits, groups_pos}
use Rattle.theory.proofs.Chains.{Chain}
use Rattle.theory.proofs.Cuts.{cut_good}
use Rattle.theory.proofs.Written.{part_fits, after_more, carries}

-- where packet i begins, from group g on
abbrev begins : Part → ℕ → ℕ → ℕ
begins t g zero = g
begins t g (suc i) = begins t (after_packet t g) i

begins_suc : (t : Part) (g i : ℕ) → begins t g (suc i) ≡ after_packet t (begins t g i)
begins_suc t g zero = refl
begins_suc t g (suc i) = begins_suc t (after_packet t g) i

-- a chain ends in the part
chain_end : (t : Part) → Limits t → (g : ℕ) (ss : List Segment) → Chain t g ss → g ≤ groups t → g + cut_groups ss ≤ groups t
chain_end t w g [] c h = omega arith
chain_end t w g (s ∷ ss) c h =
    let R : ℕ = row_groups t.format in
    let row : g / R < unit_rows t = div_below g R (unit_rows t) w.row_pos c.2 in
    let up : (g / R + 1) * R ≤ unit_rows t * R = mul-le-mul_right R (omega arith) in
    let here : g + s.count ≤ groups t = omega (arith, div-add-mod' g R, add-mul (g / R) 1 R, c.3) in
    omega (arith, chain_end t w (g + s.count) ss c.4 here)

after_inside : (t : Part) → Limits t → (g : ℕ) → g < groups t → after_packet t g ≤ groups t
after_inside t w g h = chain_end t w g (cut t g) (cut_good t w g h).chain (omega arith)

record InTurn (t : Part) (v : Picture) (seq g : ℕ) (qs : List (List ℕ)) : Type 0 where
  some : 0 < length qs
  each : (i : ℕ) → i < length qs → get_or qs i [] ≡ packet t v ((seq + i) % 2 ^ 32) (begins t g i)
  starts : (i : ℕ) → i < length qs → begins t g i < groups t
  ends : begins t g (length qs) ≡ groups t

from_0 : (n : ℕ) (P : ℕ → Type 0) → P 0 → ((i : ℕ) → i < n → P (suc i)) → (i : ℕ) → i < suc n → P i
from_0 n P a b zero h = a
from_0 n P a b (suc i) h = b i (omega arith)

in_turn : (t : Part) → Limits t → (v : Picture) (n seq g : ℕ) → seq < 2 ^ 32 → g < groups t → groups t ≤ g + n
    → InTurn t v seq g (packets_from t v n seq g)
in_turn t w v zero seq g s h room = absurd (omega arith)
in_turn t w v (suc n) seq g s h room =
    let q : List ℕ = packet t v seq g in
    let next : ℕ = after_packet t g in
    let seq' : ℕ = (seq + 1) % 2 ^ 32 in
    let here : q ≡ packet t v ((seq + 0) % 2 ^ 32) g = ap (λ x. packet t v x g) (omega arith) in
    cond_both (is_last t g) [] (packets_from t v n seq' next) (λ qs. InTurn t v seq g (q ∷ qs))
    (λ last. record {
      some = omega arith;
      each = from_0 0 (λ i. get_or (q ∷ []) i [] ≡ packet t v ((seq + i) % 2 ^ 32) (begins t g i)) here (λ i l. absurd (omega arith));
      starts = from_0 0 (λ i. begins t g i < groups t) h (λ i l. absurd (omega arith));
      ends = omega (arith, leb-true (groups t) next last, after_inside t w g h);
    })
    (λ more.
    let rest : List (List ℕ) = packets_from t v n seq' next in
    let r : InTurn t v seq' next rest = in_turn t w v n seq' next (omega arith) (leb-false (groups t) next more)
    (omega (arith, after_more t w g h)) in
    record {
      some = omega arith;
      each = from_0 (length rest) (λ i. get_or (q ∷ rest) i [] ≡ packet t v ((seq + i) % 2 ^ 32) (begins t g i)) here
          (λ i l. r.each i l ∙ ap (λ x. packet t v x (begins t next i)) (omega arith));
      starts = from_0 (length rest) (λ i. begins t g i < groups t) h r.starts;
      ends = r.ends;
    })

module _ (t : Part) (v : Picture) (seq : ℕ) (lt : LawfulPart t) (lv : LawfulPicture v) (fit : fits_part v t ≡ true) (hq : seq < 2 ^ 32)
  where
    w : Limits t
    w = limits t lt

    p : PartFits t
    p = part_fits t w lt.ssrc_fits lt.timestamp_fits

    turn : InTurn t v seq 0 (whole_part t v seq)
    turn = in_turn t w v (groups t) seq 0 hq (groups_pos t w) (omega arith)

    next : (i : ℕ) → begins t 0 (i + 1) ≡ after_packet t (begins t 0 i)
    next i = ap (begins t 0) (add-one i) ∙ begins_suc t 0 i

    -- the last packet is the one that ends the part
    last_is : (i : ℕ) → i < length (whole_part t v seq) → is_last t (begins t 0 i) ≡ eqb (i + 1) (length (whole_part t v seq))
    last_is i h = ⊎_elim
        (λ e. le-leb (groups t) (after_packet t (begins t 0 i)) (omega (arith, next i, ap (begins t 0) e, turn.ends))
        ∙ sym (eq-eqb (i + 1) (length (whole_part t v seq)) e))
        (λ n. lt-leb (groups t) (after_packet t (begins t 0 i)) (omega (arith, next i, turn.starts (i + 1) (omega arith)))
        ∙ sym (ne_eqb (i + 1) (length (whole_part t v seq)) n))
        (cases_eq (i + 1) (length (whole_part t v seq)))

    pub parts_are_whole : WholePart t v seq (whole_part t v seq)
    parts_are_whole = record {
      some = turn.some;
      begin = begins t 0;
      begin_first = refl;
      begin_last = turn.ends;
      each = λ i h.
          let n : ℕ = (seq + i) % 2 ^ 32 in
          let b : ℕ = begins t 0 i in
          subst (Carries t v n b (begins t 0 (i + 1)) (eqb (i + 1) (length (whole_part t v seq)))) (sym (turn.each i h))
          (subst (λ last. Carries t v n b (begins t 0 (i + 1)) last (packet t v n b)) (last_is i h)
          (subst (λ to. Carries t v n b to (is_last t b) (packet t v n b)) (sym (next i))
          (carries t lt.format_allowed w p v n b (turn.starts i h) (omega arith) lv fit)));
    }

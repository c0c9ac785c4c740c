-- What every run keeps: the sizes, the map's bits, the samples, and the answers.
use Rattle.std.proofs.Common.{◌≡◌, ℕ, zero, ◌+◌, ◌-◌, ◌*◌, ◌/◌, ◌%◌, ◌^◌, ◌<◌, ◌≤◌, Bool, true, false, cond, not, ◌&&◌, ◌||◌, eqb, ltb, List, [], ◌∷◌, ◌++◌, length, get_or, drop, replicate, Some, None, Ok, Option, sym, refl, ap, ◌∙◌, subst, ap₂, inl, inr, arith, length-append, length-drop}
use native.Mathlib.Nat.{zero-div}
use lib.ListN.{length-replicate}
use Rattle.std.proofs.lemmas.List.{get_or_append_left, get_or-append_right, get_or-drop, get_or-replicate}
use Rattle.std.proofs.lemmas.List.FromFn.{length-map-range_with_len, get_or-map-range_with_len}
use Rattle.std.proofs.lemmas.Bool.{leb-true, le-ltb, cases_lt, cond-true, cond-false, and_parts, not_from_true}
use Rattle.theory.specs.Answers.{first_row, is_none, answer}
use Rattle.theory.specs.Octets.{AllOctets, bit, number_of_bits, map_of_bits}
use Rattle.theory.specs.Formats.{Part, groups, map_octets, lawful_format}
use Rattle.theory.specs.Pictures.{Picture, inside, with_samples}
use Rattle.theory.specs.Groups.{group_of}
use Rattle.theory.specs.Taking.{offer_rows, offer_refusal, taken, names, sets, reads, picture_after, set_count, missing, offer_answer, count_refusal, count_answer, opened_map}
use Rattle.theory.specs.Runs.{Event, offer, count, Start, Reached, opened, offered, counted, packets_taken, refusal, earliest, some_names, sample_from, new_groups, unnamed_groups}
use Rattle.theory.proofs.Bits.{bit_made, octet_lt, bits_same, bits_whole}
use Rattle.theory.proofs.Named.{count_same, names_more, earliest_more, not_found}
use Rattle.theory.proofs.Readable.{named_below}
use Rattle.theory.proofs.Tests.{or_false}

-- the sizes and the depth stay
pub shape : {s : Start} {es : List Event} {v : Picture} {m : List ℕ} → Reached s es v m → v ≡ with_samples s.picture v.sample
shape opened = refl
shape {s} (offered {v = v} {m = m} r q) = ap (λ x. with_samples x (picture_after s.part v m q).sample) (shape r)
shape (counted r) = shape r

map_long_enough : (s : Start) → map_octets s.part ≤ length s.map
map_long_enough s = leb-true (map_octets s.part) (length s.map) s.map_long

-- and so does the length of the map
pub length_opened : (s : Start) → length (opened_map s.part s.map) ≡ length s.map
length_opened s =
    let k = map_octets s.part in
    length-append (replicate k 0) (drop k s.map) ∙ ap₂ (λ x y. x + y) (length-replicate k 0) (length-drop k s.map)
    ∙ omega (arith, map_long_enough s)

pub length_kept : {s : Start} {es : List Event} {v : Picture} {m : List ℕ} → Reached s es v m → length m ≡ length s.map
length_kept {s} opened = length_opened s
length_kept {s} (offered {v = v} {m = m} r q) = length-map-range_with_len _ 0 (length m) ∙ length_kept r
length_kept (counted r) = length_kept r

-- an opening clears the part's octets of the map
opened_zero : (s : Start) (i : ℕ) → i < map_octets s.part → get_or (opened_map s.part s.map) i 0 ≡ 0
opened_zero s i h =
    let k = map_octets s.part in
    get_or_append_left (replicate k 0) (drop k s.map) 0 i (omega (arith, length-replicate k zero)) ∙ get_or-replicate k i 0 0 h

-- the map stays a list of octets
octets_opened : (s : Start) → AllOctets (opened_map s.part s.map)
octets_opened s i h =
    let k = map_octets s.part in
    let z = length-replicate k zero in
    elim (cases_lt i k) [
      | inl l ↦ rw (opened_zero s i l) (omega arith)
      | inr l ↦
          let j : i ≡ k + (i - k) = omega arith in
          let e : get_or (opened_map s.part s.map) i 0 ≡ get_or s.map i 0 =
          get_or-append_right (replicate k 0) (drop k s.map) k i 0 z l ∙ get_or-drop k s.map (i - k) 0 ∙ ap (λ n. get_or s.map n 0) (sym j) in
          rw e (s.map_fits i (omega (arith, length_opened s)))
    ]

pub octets_kept : {s : Start} {es : List Event} {v : Picture} {m : List ℕ} → Reached s es v m → AllOctets m
octets_kept {s} opened i h = octets_opened s i h
octets_kept {s} (offered {v = v} {m = m} r q) i h =
    let f : ℕ → ℕ = λ i. number_of_bits (λ j. bit m (8 * i + j) || sets s.part v m q (8 * i + j)) 8 in
    rw (get_or-map-range_with_len f 0 (length m) i i 0 (omega (arith, length-map-range_with_len f 0 (length m))) (omega arith))
    (octet_lt (λ j. bit m (8 * i + j) || sets s.part v m q (8 * i + j)) 8)
octets_kept (counted r) i h = octets_kept r i h

-- so whether a packet is refused, and by which row, stays as well
pub refusal_kept : {s : Start} {es : List Event} {v : Picture} {m : List ℕ} → Reached s es v m → (q : List ℕ)
    → offer_refusal s.part v m q ≡ refusal s q
refusal_kept {s} {es} {v} {m} r q =
    ap₂ (λ x n. first_row (offer_rows s.part x n q)) (shape r) (length_kept r)

-- the taken packets, after one offer more
pub takes_more : (o : Option ℕ) (n : ℕ) (q : List ℕ) (es : List Event)
    → packets_taken (offer q (answer o n) ∷ es) ≡ cond (is_none o) (packets_taken es ++ q ∷ []) (packets_taken es)
takes_more None n q es = refl
takes_more (Some row) n q es = refl

absorb : (b x : Bool) → (b || (x && not b)) ≡ (b || x)
absorb true x = refl
absorb false true = refl
absorb false false = refl

or_swap : (n b g : Bool) → (n || b || g) ≡ (n || g || b)
or_swap true b g = refl
or_swap false true true = refl
or_swap false true false = refl
or_swap false false true = refl
or_swap false false false = refl

-- the bits of the map: set where a taken packet named the group, or from the opening
abbrev pub bit_of : Start → List (List ℕ) → ℕ → Bool
bit_of s qs k = some_names s.part qs k || bit (opened_map s.part s.map) k

bit_after : {s : Start} {es : List Event} {v : Picture} {m : List ℕ} (r : Reached s es v m) (q : List ℕ) (k : ℕ)
    → bit m k ≡ bit_of s (packets_taken es) k
    → (bit m k || sets s.part v m q k) ≡ bit_of s (packets_taken (offer q (offer_answer s.part v m q) ∷ es)) k
bit_after {s} {es} {v} {m} r q k h =
    let t = s.part in
    let T = taken t v m q in
    let B = bit (opened_map t s.map) k in
    absorb (bit m k) (T && names t q k)
    ∙ ap (λ b. b || (T && names t q k)) h
    ∙ or_swap (some_names t (packets_taken es) k) B (T && names t q k)
    ∙ ap (λ b. b || B) (sym (ap (λ qs. some_names t qs k) (takes_more (offer_refusal t v m q) (set_count t v m q) q es)
    ∙ names_more t k T (packets_taken es) q))

pub all_bits : {s : Start} {es : List Event} {v : Picture} {m : List ℕ} → Reached s es v m → (k : ℕ) → k < 8 * length s.map
    → bit m k ≡ bit_of s (packets_taken es) k
all_bits opened k h = refl
all_bits {s} (offered {es = es} {v = v} {m = m} r q) k h =
    bit_made (λ k. bit m k || sets s.part v m q k) (length m) k (omega (arith, length_kept r)) ∙ bit_after r q k (all_bits r k h)
all_bits (counted r) k h = all_bits r k h

-- the map, made of its bits
pub map_is : {s : Start} {es : List Event} {v : Picture} {m : List ℕ} → Reached s es v m
    → m ≡ map_of_bits (bit_of s (packets_taken es)) (length s.map)
map_is {s} {es} {v} {m} r =
    sym (bits_whole m (octets_kept r)) ∙ ap (map_of_bits (bit m)) (length_kept r)
    ∙ bits_same (bit m) (bit_of s (packets_taken es)) (length s.map) (all_bits r)

-- an opening leaves no group bit-of
opened_bit : (s : Start) (k : ℕ) → k < groups s.part → bit (opened_map s.part s.map) k ≡ false
opened_bit s k h =
    ap (λ x. eqb ((x / 2 ^ (k % 8)) % 2) 1) (opened_zero s (k / 8) (omega arith)) ∙ ap (λ x. eqb (x % 2) 1) (zero-div (2 ^ (k % 8)))

-- the map has the bits of the groups that taken packets name
pub bits : {s : Start} {es : List Event} {v : Picture} {m : List ℕ} → Reached s es v m → (g : ℕ) → g < groups s.part
    → bit m g ≡ some_names s.part (packets_taken es) g
bits {s} {es} r g h =
    all_bits r g (omega (arith, map_long_enough s)) ∙ ap (λ b. some_names s.part (packets_taken es) g || b) (opened_bit s g h)
    ∙ or_false (some_names s.part (packets_taken es) g)

-- the missing groups are those that no taken packet names
pub missing_is : {s : Start} {es : List Event} {v : Picture} {m : List ℕ} → Reached s es v m
    → missing s.part m ≡ unnamed_groups s.part (packets_taken es)
missing_is {s} {es} {v} {m} r =
    count_same (groups s.part) (λ g. not (bit m g)) (λ g. not (some_names s.part (packets_taken es) g)) (λ g h. ap not (bits r g h))

-- and a count answers their number
pub count_is : {s : Start} {es : List Event} {v : Picture} {m : List ℕ} → Reached s es v m
    → count_answer s.part m ≡ Ok (unnamed_groups s.part (packets_taken es))
count_is {s} {es} {v} {m} r =
    let long : ltb (length m) (map_octets s.part) ≡ false = le-ltb (length m) (map_octets s.part)
    (omega (arith, length_kept r, map_long_enough s)) in
    let none : count_refusal s.part m ≡ None =
    cond-false (not (lawful_format s.part.format)) (Some 4) _ (not_from_true _ s.lawful_part.format_allowed)
    ∙ cond-false (ltb (length m) (map_octets s.part)) (Some 6) None long in
    ap₂ answer none (missing_is r)

-- one offer, at one place: I inside, G the packet is taken and names the group, B the group's bit, N some packet before named it, E the
-- earliest of those
step : (I G B N : Bool) (E : Option (List ℕ)) (q : List ℕ) (S : Option (List ℕ) → ℕ) (V P : ℕ)
    → (G ≡ true → B ≡ N) → (N ≡ false → E ≡ None) → V ≡ cond I (S E) P
    → cond (I && (G && not B)) (S (Some q)) V ≡ cond I (S (cond N E (cond G (Some q) None))) P
step false G B N E q S V P b n h = h
step true false B true E q S V P b n h = h
step true false B false E q S V P b n h = h ∙ ap S (n refl)
step true true B true E q S V P b n h = ap (λ x. cond (not x) (S (Some q)) V) (b refl) ∙ h
step true true B false E q S V P b n h = ap (λ x. cond (not x) (S (Some q)) V) (b refl)

cond_same : (b : Bool) (x : ℕ) → x ≡ cond b x x
cond_same true x = refl
cond_same false x = refl

-- the sample at every place, inside or not
pub all_samples : {s : Start} {es : List Event} {v : Picture} {m : List ℕ} → Reached s es v m → (p r c : ℕ)
    → v.sample p r c ≡ cond (inside s.picture p r c)
    (sample_from s p r c (earliest s.part (group_of s.part p r c) (packets_taken es))) (s.picture.sample p r c)
all_samples {s} opened p r c = cond_same (inside s.picture p r c) (s.picture.sample p r c)
all_samples {s} (offered {es = es} {v = v} {m = m} re q) p r c =
    let t = s.part in
    let g = group_of t p r c in
    let T = taken t v m q in
    let I = inside s.picture p r c in
    ap (λ i. cond (i && (T && names t q g && not (bit m g))) (reads t q p r c) (v.sample p r c)) (ap (λ x. inside x p r c) (shape re))
    ∙ step I (T && names t q g) (bit m g) (some_names t (packets_taken es) g) (earliest t g (packets_taken es)) q (sample_from s p r c)
    (v.sample p r c) (s.picture.sample p r c)
    (λ e. let b = and_parts T (names t q g) e in bits re g (named_below t s.lawful_part.lawful_kind v m q b.0 g b.1))
    (not_found t g (packets_taken es)) (all_samples re p r c)
    ∙ ap (λ o. cond I (sample_from s p r c o) (s.picture.sample p r c))
    (sym (ap (earliest t g) (takes_more (offer_refusal t v m q) (set_count t v m q) q es) ∙ earliest_more t g T (packets_taken es) q))
all_samples (counted re) p r c = all_samples re p r c

pub samples : {s : Start} {es : List Event} {v : Picture} {m : List ℕ} → Reached s es v m → (p r c : ℕ) → inside v p r c ≡ true
    → v.sample p r c ≡ sample_from s p r c (earliest s.part (group_of s.part p r c) (packets_taken es))
samples {s} {es} {v} {m} re p r c h =
    all_samples re p r c
    ∙ cond-true (inside s.picture p r c) (sample_from s p r c (earliest s.part (group_of s.part p r c) (packets_taken es)))
    (s.picture.sample p r c) (rw (shape re) at h)

-- what an offer answers now
pub offer_is : {s : Start} {es : List Event} {v : Picture} {m : List ℕ} → Reached s es v m → (q : List ℕ)
    → offer_answer s.part v m q ≡ answer (refusal s q) (new_groups s.part (packets_taken es) q)
offer_is {s} {es} {v} {m} r q = go (offer_refusal t v m q) refl ∙ ap (λ o. answer o (new_groups t (packets_taken es) q)) (refusal_kept r q)
  where
    t : Part
    t = s.part

    new : (T n b N : Bool) → T ≡ true → b ≡ N → (T && n && not b) ≡ (n && not N)
    new T n b N e h = ap₂ (λ x y. x && n && not y) e h

    go : (o : Option ℕ) → offer_refusal t v m q ≡ o
        → answer (offer_refusal t v m q) (set_count t v m q) ≡ answer (offer_refusal t v m q) (new_groups t (packets_taken es) q)
    go None e = ap (answer (offer_refusal t v m q))
        (count_same (groups t) (sets t v m q) (λ g. names t q g && not (some_names t (packets_taken es) g))
        (λ g h. new (taken t v m q) (names t q g) (bit m g) (some_names t (packets_taken es) g) (ap is_none e) (bits r g h)))
    go (Some row) e = ap (λ o. answer o (set_count t v m q)) e ∙ sym (ap (λ o. answer o (new_groups t (packets_taken es) q)) e)

-- what one call answered, by what came before it
abbrev Answered : Start → Event → List Event → Type 0
Answered s (offer q a) earlier = a ≡ answer (refusal s q) (new_groups s.part (packets_taken earlier) q)
Answered s (count a) earlier = a ≡ Ok (unnamed_groups s.part (packets_taken earlier))

not_nil : (later earlier : List Event) (x : Event) → [] ≡ later ++ (x ∷ earlier) → ⊥
not_nil [] earlier x e = let z : ◌≡◌ {A = ℕ} 0 1 = cc in omega arith
not_nil (y ∷ ys) earlier x e = let z : ◌≡◌ {A = ℕ} 0 1 = cc in omega arith

same_event : (s : Start) (x y : Event) (es fs : List Event) → x ∷ es ≡ y ∷ fs → Answered s x es → Answered s y fs
same_event s x y es fs e h = subst (λ z. Answered s z fs) (cc) (subst (λ zs. Answered s x zs) (cc) h)

pub each_answered : {s : Start} {es : List Event} {v : Picture} {m : List ℕ} → Reached s es v m → (later earlier : List Event) (x : Event)
    → es ≡ later ++ (x ∷ earlier) → Answered s x earlier
each_answered opened later earlier x e = absurd (not_nil later earlier x e)
each_answered {s} (offered {es =
    es} {v = v} {m = m} r q) [] earlier x e = same_event s (offer q (offer_answer s.part v m q)) x es earlier e (offer_is r q)
each_answered {s} (counted {es = es} {m = m} r) [] earlier x e = same_event s (count (count_answer s.part m)) x es earlier e (count_is r)
each_answered (offered r q) (y ∷ ys) earlier x e = each_answered r ys earlier x (cc)
each_answered (counted r) (y ∷ ys) earlier x e = each_answered r ys earlier x (cc)

-- From what the tests of a call answer to what the call answers.
use Rattle.std.proofs.Common.{◌≡◌, ℕ, ◌<◌, ◌≤◌, Bool, true, false, cond, not, ltb, List, [], ◌∷◌, ◌++◌, length, drop, Some, None, Ok, Err, Option, Result, sym, refl, ap, ◌∙◌, arith}
use Rattle.std.proofs.lemmas.Bool.{lt-ltb, le-ltb}
use Rattle.formats.specs.Meaning.{part_of, part_check}
use Rattle.theory.specs.Answers.{first_row, is_none}
use Rattle.theory.specs.Layouts.{Kind}
use Rattle.theory.specs.Formats.{Part, lawful_format, lawful_field}
use Rattle.theory.specs.Pictures.{Picture, fits_part}
use Rattle.theory.specs.Cutting.{packet, is_last, after_packet, next_sequence, send_refusal, draw_refusal, buffer_after}
use Rattle.sender.specs.declared.drawing.Written.{Written}
use Rattle.sender.specs.Drawing.{State, more, last, refused_or, drawing}
use Rattle.sender.specs.Plans.{following, outcome_of, written, after_written}
use Rattle.sender.specs.Sources.{source_refusal}

-- a format's check passes where it is lawful
pub format_passes : (b : Bool) → ◌≡◌ {A = Result (Unit {0}) ℕ} (Ok tt) (cond b (Ok tt) (Err 4)) → b ≡ true
format_passes true e = refl
format_passes false e = absurd (let z : ◌≡◌ {A = ℕ} 0 1 = cc in omega arith)

-- a part's check passes where its format is lawful and has the field, and refuses as an opening does
module _ (t : Part) where
  pub part_has_field : Ok tt ≡ part_check t → lawful_field t.format t.field ≡ true
  part_has_field e = go (lawful_format t.format) (lawful_field t.format t.field) e
    where
      go : (a b : Bool) → ◌≡◌ {A = Result (Unit {0}) ℕ} (Ok tt) (cond a (cond b (Ok tt) (Err 5)) (Err 4)) → b ≡ true
      go true true e = refl
      go true false e = absurd (let z : ◌≡◌ {A = ℕ} 0 1 = cc in omega arith)
      go false b e = absurd (let z : ◌≡◌ {A = ℕ} 0 1 = cc in omega arith)

  pub part_passes : Ok tt ≡ part_check t → send_refusal t ≡ None
  part_passes e = go (lawful_format t.format) (lawful_field t.format t.field) e
    where
      go : (a b : Bool) → ◌≡◌ {A = Result (Unit {0}) ℕ} (Ok tt) (cond a (cond b (Ok tt) (Err 5)) (Err 4))
          → first_row ((not a, 4) ∷ (not b, 5) ∷ []) ≡ None
      go true true e = refl
      go true false e = absurd (let z : ◌≡◌ {A = ℕ} 0 1 = cc in omega arith)
      go false b e = absurd (let z : ◌≡◌ {A = ℕ} 0 1 = cc in omega arith)

  pub part_refuses : (n : ℕ) → Err n ≡ part_check t → send_refusal t ≡ Some n
  part_refuses n e = go (lawful_format t.format) (lawful_field t.format t.field) e
    where
      go : (a b : Bool) → ◌≡◌ {A = Result (Unit {0}) ℕ} (Err n) (cond a (cond b (Ok tt) (Err 5)) (Err 4))
          → first_row ((not a, 4) ∷ (not b, 5) ∷ []) ≡ Some n
      go true true e = absurd (let z : ◌≡◌ {A = ℕ} 0 1 = cc in omega arith)
      go true false e = let z : n ≡ 5 = cc in ap Some (sym z)
      go false b e = let z : n ≡ 4 = cc in ap Some (sym z)

-- the rows of a draw: the first that holds
first_of : (a b c : Bool) (r : Option ℕ) → cond a (cond b (cond c (Some 19) None) (Some 6)) (Some 4) ≡ r
    → first_row ((not a, 4) ∷ (not b, 6) ∷ (c, 19) ∷ []) ≡ r
first_of true true c r e = e
first_of true false c r e = e
first_of false b c r e = e

-- where the source is refused, the draw is
pub refused_source : (t : Part) (v : Picture) (seq g room : ℕ) {n : ℕ} → source_refusal t v ≡ Some n → draw_refusal t v seq g room ≡ Some n
refused_source t v seq g room e = go (lawful_format t.format) (fits_part v t) (ltb room (length (packet t v seq g))) e
  where
    go : (a b c : Bool) {n : ℕ} → first_row ((not a, 4) ∷ (not b, 6) ∷ []) ≡ Some n → first_row ((not a, 4) ∷ (not b, 6) ∷ (c, 19) ∷ []) ≡ Some n
    go true true c e = absurd (let z : ◌≡◌ {A = ℕ} 0 1 = cc in omega arith)
    go true false c e = e
    go false b c e = e

module _ (t : Part) (v : Picture) (seq g room : ℕ) where
  short : Bool
  short = ltb room (length (packet t v seq g))

  pub buffer_short : lawful_format t.format ≡ true → fits_part v t ≡ true → room < length (packet t v seq g)
      → draw_refusal t v seq g room ≡ Some 19
  unfolding short
  buffer_short l f s = first_of (lawful_format t.format) (fits_part v t) short (Some 19) (rw (l, f, lt-ltb room (length (packet t v seq g)) s))

  pub allowed : lawful_format t.format ≡ true → fits_part v t ≡ true → length (packet t v seq g) ≤ room
      → draw_refusal t v seq g room ≡ None
  unfolding short
  allowed l f s = first_of (lawful_format t.format) (fits_part v t) short None (rw (l, f, le-ltb room (length (packet t v seq g)) s))

-- the buffer after a draw that was refused, and after one that was not
module _ (t : Part) (v : Picture) (seq g : ℕ) (buffer : List ℕ) where
  then : Option ℕ → List ℕ
  then r = cond (is_none r) (packet t v seq g ++ drop (length (packet t v seq g)) buffer) buffer

  pub buffer_kept : {row : ℕ} → draw_refusal t v seq g (length buffer) ≡ Some row → buffer ≡ buffer_after t v seq g buffer
  unfolding then
  buffer_kept e = ap then (sym e)

  pub buffer_written : draw_refusal t v seq g (length buffer) ≡ None
      → packet t v seq g ++ drop (length (packet t v seq g)) buffer ≡ buffer_after t v seq g buffer
  unfolding then
  buffer_written e = ap then (sym e)

-- what is behind a packet as it was written
pub drawn_as_written : {K : Type 0} (kind : K → Kind) (v : Picture) (s : State K) (room : ℕ) (w : Written)
    → draw_refusal (part_of kind s.part) v s.sequence s.group room ≡ None → w ≡ written (part_of kind s.part) v s.sequence s.group
    → Ok (after_written s w) ≡ drawing kind v s room
drawn_as_written kind v s room w none is =
    let t = part_of kind s.part in
    let n : ℕ = length (packet t v s.sequence s.group) in
    let o = cond (is_last t s.group) (last (next_sequence s.sequence) n)
    (more (record { part = s.part; sequence = next_sequence s.sequence; group = after_packet t s.group }) n) in
    ap Ok (ap (after_written s) is ∙ go (is_last t s.group) n (after_packet t s.group)) ∙ ap (λ r. refused_or r s o) (sym none)
  where
    go : (b : Bool) (n next : ℕ) → outcome_of s n (cond b None (Some next))
        ≡ cond b (last (next_sequence s.sequence) n) (more (record { part = s.part; sequence = next_sequence s.sequence; group = next }) n)
    go true n next = refl
    go false n next = refl

-- a draw that is not refused has a lawful format
pub lawful_when : (t : Part) (v : Picture) (seq g room : ℕ) → draw_refusal t v seq g room ≡ None → lawful_format t.format ≡ true
lawful_when t v seq g room e = go (lawful_format t.format) (fits_part v t) (ltb room (length (packet t v seq g))) e
  where
    go : (a b c : Bool) → first_row ((not a, 4) ∷ (not b, 6) ∷ (c, 19) ∷ []) ≡ None → a ≡ true
    go true b c e = refl
    go false b c e = absurd (let z : ◌≡◌ {A = ℕ} 0 1 = cc in omega arith)

pub written_as : (t : Part) (v : Picture) (seq g : ℕ) {n : ℕ} {next : Option ℕ} → n ≡ length (packet t v seq g) → next ≡ following t g
    → ◌≡◌ {A = Written} (record { octets = n; next = next }) (written t v seq g)
written_as t v seq g {n} {next} en e =
    let F : ℕ → Option ℕ → Written = λ m r. record { octets = m; next = r } in
    ap (λ m. F m next) en ∙ ap (F (length (packet t v seq g))) e

-- a draw that is refused
pub refused_as : {K : Type 0} (kind : K → Kind) (v : Picture) (s : State K) (room : ℕ) {n : ℕ}
    → draw_refusal (part_of kind s.part) v s.sequence s.group room ≡ Some n → Err (s, n) ≡ drawing kind v s room
refused_as kind v s room e =
    let t = part_of kind s.part in
    let n : ℕ = length (packet t v s.sequence s.group) in
    let o = cond (is_last t s.group) (last (next_sequence s.sequence) n)
    (more (record { part = s.part; sequence = next_sequence s.sequence; group = after_packet t s.group }) n) in
    ap (λ r. refused_or r s o) (sym e)

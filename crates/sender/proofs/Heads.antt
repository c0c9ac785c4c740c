-- The headers of a packet, octet by octet.
use Rattle.std.proofs.Common.{◌≡◌, ℕ, ◌+◌, ◌*◌, ◌/◌, ◌%◌, Bool, cond, not, eqb, ltb, List, [], ◌∷◌, ◌++◌, length, get_or, refl, ap, ◌∙◌, ⊎_elim, arith}
use Rattle.std.proofs.lemmas.Bool.{cases_lt, lt-ltb, le-ltb, eq-eqb, ne_eqb}
use Rattle.theory.specs.Octets.{octets16}
use Rattle.theory.specs.Formats.{Part}
use Rattle.theory.specs.Cutting.{Segment, rtp_header, srd_headers}

-- the octets of a number of 32 bits, at once and by halves
abbrev pub four_octets : ℕ → List ℕ
four_octets n = (n / 16777216 % 256) ∷ (n / 65536 % 256) ∷ (n / 256 % 256) ∷ (n % 256) ∷ []

halves : (n : ℕ) (q : List ℕ) → q ≡ four_octets n
    → (get_or q 0 0 ≡ (n / 65536 / 256) % 256) × (get_or q 1 0 ≡ (n / 65536) % 256)
    × (get_or q 2 0 ≡ (n % 65536 / 256) % 256) × (get_or q 3 0 ≡ (n % 65536) % 256)
halves n q e = (
  ap (λ l. get_or l 0 0) e ∙ omega arith,
  ap (λ l. get_or l 1 0) e,
  ap (λ l. get_or l 2 0) e ∙ omega arith,
  ap (λ l. get_or l 3 0) e ∙ omega arith,
)

pub header_is : (t : Part) (seq m : ℕ) (last : Bool) (q a s : List ℕ) → q ≡ four_octets seq → a ≡ four_octets t.timestamp
    → s ≡ four_octets t.format.ssrc → m ≡ cond last 128 0
    → ◌≡◌ {A = List ℕ}
    (128 ∷ (m + t.format.payload_type) ∷ get_or q 2 0 ∷ get_or q 3 0 ∷ get_or a 0 0 ∷ get_or a 1 0 ∷ get_or a 2 0 ∷ get_or a 3 0
    ∷ get_or s 0 0 ∷ get_or s 1 0 ∷ get_or s 2 0 ∷ get_or s 3 0 ∷ get_or q 0 0 ∷ get_or q 1 0 ∷ [])
    (rtp_header t seq last ++ octets16 (seq / 65536))
header_is t seq m last q a s eq ea es em =
    let x = halves seq q eq in
    let y = halves t.timestamp a ea in
    let z = halves t.format.ssrc s es in
    cc

pub length_headers : (t : Part) (ss : List Segment) → length (srd_headers t ss) ≡ 6 * length ss
length_headers t [] = refl
length_headers t (s ∷ ss) = omega (arith, length_headers t ss)

-- whether another header follows, by the octets that are left
pub more_is : (n m : ℕ) → m ≡ 6 * n → not (eqb m 0) ≡ ltb 0 n
more_is n m e =
    ⊎_elim (λ h. rw (ne_eqb m 0 (λ z. omega arith), lt-ltb 0 n h) refl) (λ h. rw (eq-eqb m 0 (omega arith), le-ltb 0 n h) refl) (cases_lt 0 n)

-- Of the worked cases, those that want more than computing.
use Rattle.std.proofs.Common.{◌≡◌, ℕ, zero, suc, ◌^◌, ◌<◌, ◌≤◌, false, not, ◌&&◌, ltb, List, [], ◌∷◌, Some, refl, ap, arith, lit<}
use Rattle.std.proofs.lemmas.Bool.{cond_both, cond-true, cond-false, le-ltb, and_right}
use Rattle.std.proofs.lemmas.Nat.{pow_pos}
use Rattle.theory.specs.Octets.{octet, ceil_div}
use Rattle.theory.specs.Kinds.{ycc422, half_layout}
use Rattle.theory.specs.Taking.{open_refusal}
use Rattle.theory.specs.Formats.{Part, lawful_format, plane_width, plane_height}
use Rattle.theory.specs.Pictures.{LawfulPicture}
use Rattle.theory.specs.Cases.{format, part, block16, picture, dark, key_part, key_packet, KeyRun}
use Rattle.theory.specs.Runs.{Start, opened, offered, counted}
use Rattle.theory.proofs.Lawfulness.{each_depth, standard_kinds}

-- a picture of a part is lawful
pub lawful_picture : (t : Part) (f : ℕ → ℕ → ℕ → ℕ) → 1 ≤ t.format.depth → t.format.depth ≤ 16
    → ((p r c : ℕ) → f p r c < 2 ^ t.format.depth) → LawfulPicture (picture t f)
lawful_picture t f low high small = record {
  depth_range = (low, high);
  no_width = λ p h. cond-false (ltb p t.format.kind.planes) _ 0 (le-ltb p t.format.kind.planes h);
  no_height = λ p h. cond-false (ltb p t.format.kind.planes) _ 0 (le-ltb p t.format.kind.planes h);
  below = λ p r c. cond_both (ltb r (plane_height t p) && ltb c (plane_width t p)) (f p r c) 0 (λ x. x < 2 ^ t.format.depth)
      (λ _. small p r c) (λ _. pow_pos t.format.depth);
  outside = λ p r c h. cond-false (ltb r (plane_height t p) && ltb c (plane_width t p)) (f p r c) 0 h;
}

only_0 : (P : ℕ → Type 0) → P 0 → (i : ℕ) → i < 1 → P i
only_0 P x zero h = x
only_0 P x (suc i) h = absurd (omega arith)

abbrev key_start : Start
key_start = record {
  part = key_part;
  picture = dark key_part;
  map = 0xFF ∷ [];
  lawful_part = record {
    lawful_kind = standard_kinds.key_lawful;
    format_allowed = refl;
    field_allowed = refl;
    timestamp_fits = lit< tt;
    ssrc_fits = lit< tt;
  };
  lawful_picture = lawful_picture key_part (λ _ _ _. 0) (omega arith) (omega arith) (λ _ _ _. lit< tt);
  map_long = refl;
  map_fits = only_0 (λ i. octet (0xFF ∷ []) i < 256) (lit< tt);
}

pub key_run : KeyRun
key_run = record {
  start = key_start;
  part_is = refl;
  picture_is = refl;
  map_is = refl;
  now = _;
  reached = counted (offered (offered (counted opened) key_packet) key_packet);
  shows = refl;
}

-- 4:2:2 and width 5, at each depth
pub plane_rounded : (depth : ℕ) → 0 < (ycc422.layout depth).octets → plane_width (part (format ycc422 depth 5 1 1)) 1 ≡ 3
plane_rounded =
    each_depth (λ l. 0 < l.octets → ceil_div 5 (l.column_step 1) ≡ 3) (half_layout 4) (half_layout 5) (half_layout 6) (half_layout 8)
    (λ _. refl) (λ _. refl) (λ _. refl) (λ _. refl) (λ h. absurd (omega arith))

-- 4:2:2 at 16 in block mode: 8 octets do not divide 180
pub never_allowed : (w h scan type source : ℕ) → lawful_format (block16 w h scan type source) ≡ false
never_allowed w h scan type source = and_right _ _ refl

pub never_opened : (w h scan type source time field : ℕ) (m : List ℕ)
    → open_refusal (record { format = block16 w h scan type source; timestamp = time; field = field }) m ≡ Some 4
never_opened w h scan type source time field m =
    cond-true (not (lawful_format (block16 w h scan type source))) (Some 4) _ (ap not (never_allowed w h scan type source))

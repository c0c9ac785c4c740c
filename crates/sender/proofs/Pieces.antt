-- Groups that are packed from the samples of a run, and pieces of groups one after another.
use Rattle.std.proofs.Common.{◌≡◌, ℕ, ◌+◌, ◌-◌, ◌*◌, ◌/◌, ◌%◌, ◌^◌, ◌<◌, ◌≤◌, true, List, [], ◌∷◌, ◌++◌, map, length, get_or, take, sym, ap, ◌∙◌, subst, mul-le-mul_right, add-mul, div-le_self, arith}
use borrow.Rule.Slice.PartMut.{put_mid}
use Rattle.std.specs.List.{range_with_len}
use Rattle.std.specs.Int.Digits.{AllBelowBase}
use Rattle.std.proofs.lemmas.Nat.{mul-le, div-mul-add, mod-mul-add}
use Rattle.std.proofs.lemmas.List.FromFn.{length-map-range_with_len, get_or-map-range_with_len, fill_by_all}
use Rattle.std.proofs.lemmas.List.{take_at}
use Rattle.std.proofs.lemmas.Slice.{take-put_mid}
use Rattle.std.proofs.lemmas.Bool.{and_from, eq-eqb, lt-ltb, cond-true}
use Rattle.kinds.specs.Packing.{packs, packed}
use Rattle.kinds.proofs.Tested.{under_decides}
use Rattle.theory.specs.Layouts.{Kind, Layout, group_height, group_width}
use Rattle.theory.specs.Formats.{Part, layout_of, row_groups}
use Rattle.theory.specs.Pictures.{Picture, LawfulPicture, fits_part}
use Rattle.theory.specs.Groups.{octets_of_samples, sample_at, group_samples, group_octets}
use Rattle.theory.specs.Cutting.{concat_map}
use Rattle.theory.proofs.Contents.{counting_append, concat_map_append, length_concat}
use Rattle.theory.proofs.Limits.{Limits}
use Rattle.theory.proofs.Places.{depth_of_fit}
use Rattle.sender.specs.Rows.{HoldsRun, word_at, words_of}

-- the row or the column of a position is small
pub small_place : (u n s r : ℕ) → u < 2 ^ 32 → n ≤ 8 → r ≤ 8 → u * (n / s) + r < 2 ^ 36
small_place u n s r hu hn hr = omega (arith, mul-le u (n / s) (2 ^ 32) 8 (omega arith) (omega (arith, div-le_self n s)))

-- n groups from group i on end in the room of all of them
pub groups_end : (i n count o : ℕ) {w room : ℕ} → i + n ≤ count → o ≡ w → room ≡ count * w → i * o + n * o ≤ room
groups_end i n count o h e is = omega (arith, mul-le-mul_right o h, add-mul i n o, ap (λ x. count * x) e)

-- of `count` small groups of o octets each, `done` are written and n come next
pub record RoomFor (done n count o : ℕ) : Type 0 where
  pub split : (done + n) * o ≡ done * o + n * o
  pub small : (done + n) * o < 2 ^ 40
  pub end : done * o + n * o ≤ count * o

pub room_for : (first done n count o : ℕ) → o ≤ 48 → 0 < n → done + n ≤ count → ((i : ℕ) → i < count → first + i < 2 ^ 32)
    → RoomFor done n count o
room_for first done n count o few some more small =
    let split : (done + n) * o ≡ done * o + n * o = add-mul done n o in
    let last : done + n ≤ 2 ^ 32 = omega (arith, small (done + n - 1) (omega arith)) in
    record {
      split = split;
      small = omega (arith, mul-le (done + n) o (2 ^ 32) 48 last few);
      end = omega (arith, mul-le-mul_right o more);
    }

-- as many samples as a group has, each of the depth, are packed
pub packed_whole : (l : Layout) (d : ℕ) (xs os : List ℕ) → 0 < l.octets → length os ≡ l.octets → length xs ≡ l.positions → AllBelowBase (2 ^ d) xs
    → packed l d xs os ≡ octets_of_samples l d xs
packed_whole l d xs os pos room size small =
    cond-true (packs l d xs os) (octets_of_samples l d xs) os
    (and_from _ _
    (and_from _ _ (lt-ltb 0 l.octets pos) (eq-eqb (length os) l.octets room))
    (and_from _ _ (eq-eqb (length xs) l.positions size) ((under_decides (2 ^ d) xs).1 small)))

-- n lists of o octets behind others
pub pieces_more : (f : ℕ → List ℕ) (first i n o k : ℕ) (out ys : List ℕ) → ((x : ℕ) → length (f x) ≡ o) → i * o ≤ length out
    → ys ≡ concat_map f (range_with_len (first + i) n)
    → take (i * o) out ≡ concat_map f (range_with_len first i)
    → take ((i + n) * o) (put_mid (i * o) k out ys) ≡ concat_map f (range_with_len first (i + n))
pieces_more f first i n o k out ys size room is e =
    let long : length ys ≡ n * o = ap length is ∙ length_concat f (first + i) n o size in
    take-put_mid (i * o) k out ys ((i + n) * o) (omega (arith, add-mul i n o)) room
    ∙ ap (λ xs. xs ++ ys) e
    ∙ ap (λ xs. concat_map f (range_with_len first i) ++ xs) is
    ∙ sym (concat_map_append f (range_with_len first i) (range_with_len (first + i) n))
    ∙ ap (concat_map f) (sym (counting_append first i n))

under_map : (m : ℕ) (f : ℕ → ℕ) → ((k : ℕ) → f k < m) → (ks : List ℕ) → AllBelowBase m (map f ks)
under_map m f h [] = tt
under_map m f h (k ∷ ks) = (h k, under_map m f h ks)

module _ (t : Part) (v : Picture) (w : Limits t) (u x n : ℕ) (words : List (List (List ℕ))) (row : x + n ≤ row_groups t.format)
    (held : HoldsRun t v u x n words) where
  -- the words of position k of group i are its sample
  sample_held : (i k : ℕ) → i < n → k < (layout_of t.format).positions
      → word_at (layout_of t.format) words i k ≡ sample_at t v (u * row_groups t.format + (x + i)) k
  sample_held i k hi hk =
      let l = layout_of t.format in
      let R : ℕ = row_groups t.format in
      let p : ℕ = l.plane k in
      let H : ℕ = group_height t.format.kind l p in
      let W : ℕ = group_width l p in
      let at = w.layout.inside k hk in
      let q : u ≡ (u * R + (x + i)) / R = sym (div-mul-add u R (x + i) (omega arith)) in
      let r : x + i ≡ (u * R + (x + i)) % R = sym (mod-mul-add u R (x + i) (omega arith)) in
      let next : i + 1 ≤ n = omega arith in
      let near : i * W + l.column k < n * W =
      omega (arith, at.2, mul-le (i + 1) W n W next (omega arith), add-mul i 1 W) in
      let far : x * W + (i * W + l.column k) ≡ (x + i) * W + l.column k = omega (arith, add-mul x i W) in
      held p at.0 (l.row k) at.1 (i * W + l.column k) near
      ∙ ap (v.sample p (u * H + l.row k)) far
      ∙ ap (λ m. v.sample p (m * H + l.row k) ((x + i) * W + l.column k)) q
      ∙ ap (λ m. v.sample p ((u * R + (x + i)) / R * H + l.row k) (m * W + l.column k)) r

  group_held : (i : ℕ) → i < n → words_of (layout_of t.format) words i ≡ group_samples t v (u * row_groups t.format + (x + i))
  group_held i h =
      let l = layout_of t.format in
      let f : ℕ → ℕ = word_at l words i in
      fill_by_all (sample_at t v (u * row_groups t.format + (x + i))) (words_of l words i) l.positions 0
      (length-map-range_with_len f 0 l.positions)
      (λ k hk. get_or-map-range_with_len f 0 l.positions k k 0 hk (omega arith) ∙ sample_held i k h hk)

  -- each sample has the depth
  pub run_small : LawfulPicture v → fits_part v t ≡ true → (i : ℕ) → i < n
      → AllBelowBase (2 ^ t.format.depth) (words_of (layout_of t.format) words i)
  run_small lawful fits i h =
      subst (AllBelowBase (2 ^ t.format.depth)) (sym (group_held i h))
      (under_map (2 ^ t.format.depth) (sample_at t v (u * row_groups t.format + (x + i)))
      (λ k. subst (λ y. sample_at t v (u * row_groups t.format + (x + i)) k < 2 ^ y) (depth_of_fit v t fits) (lawful.below _ _ _))
      (range_with_len 0 (layout_of t.format).positions))

-- samples that are written one by one are packed
pub packed_samples : (m : Kind) (d b : ℕ) (f : ℕ → ℕ) (xs rest os new : List ℕ) (n : ℕ) → b ≡ d → n ≡ (m.layout b).positions → length xs ≡ n
    → ((k : ℕ) → k < n → get_or xs k 0 ≡ f k) → new ≡ packed (m.layout b) b (take n (xs ++ rest)) os
    → new ≡ packed (m.layout d) d (map f (range_with_len 0 (m.layout d).positions)) os
packed_samples m d b f xs rest os new n eb en long each is =
    let size : n ≡ (m.layout d).positions = en ∙ ap (λ x. (m.layout x).positions) eb in
    let whole : xs ≡ map f (range_with_len 0 n) =
    fill_by_all f xs n 0 long each in
    is ∙ ap (λ x. packed (m.layout x) x (take n (xs ++ rest)) os) eb
    ∙ ap (λ ys. packed (m.layout d) d ys os) (take_at xs rest n long ∙ whole)
    ∙ ap (λ x. packed (m.layout d) d (map f (range_with_len 0 x)) os) size

-- a group of a run that is packed from the run's samples is the picture's group
pub group_packed : (t : Part) (v : Picture) → Limits t → LawfulPicture v → fits_part v t ≡ true → (u x n R d i : ℕ) (words : List (List (List ℕ)))
    (os ys : List ℕ) → R ≡ row_groups t.format → d ≡ t.format.depth → x + n ≤ R → HoldsRun t v u x n words → i < n
    → length os ≡ (layout_of t.format).octets
    → ys ≡ packed (t.format.kind.layout d) d (words_of (t.format.kind.layout d) words i) os
    → ys ≡ group_octets t v (u * R + x + i)
group_packed t v w lawful fits u x n R d i words os ys eR ed inside held h room is =
    let l = layout_of t.format in
    let dep : ℕ = t.format.depth in
    let row : x + n ≤ row_groups t.format = omega arith in
    is ∙ ap (λ y. packed (t.format.kind.layout y) y (words_of (t.format.kind.layout y) words i) os) ed
    ∙ packed_whole l dep (words_of l words i) os w.octets_pos room (length-map-range_with_len (word_at l words i) 0 l.positions)
    (run_small t v w u x n words row held lawful fits i h)
    ∙ ap (octets_of_samples l dep) (group_held t v w u x n words row held i h)
    ∙ ap (λ r. group_octets t v (u * r + (x + i))) (sym eR)
    ∙ ap (group_octets t v) (let s : u * R + (x + i) ≡ u * R + x + i = omega arith in s)

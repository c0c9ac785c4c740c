-- A planar store as a value: its picture, that it is lawful, and what no put changes.
use Rattle.std.specs.Prelude.{ℕ, ◌%◌, ◌^◌, ◌<◌, List, slice_index}
use Rattle.std.proofs.lemmas.Nat.{mod_below, pow_pos}
use Rattle.std.proofs.lemmas.Bool.{cond_both, cond-false}
use Rattle.theory.specs.Pictures.{Picture, inside, LawfulPicture}
use Rattle.stores.specs.declared.shape.Shape.{Shape}
use Rattle.stores.specs.declared.planar.Planar.{Planar}
use Rattle.stores.specs.Words.{word_at, in_words}
use Rattle.stores.specs.Shapes.{blank, shape_picture, words_behind}

abbrev pub planar_picture : Planar → Picture
planar_picture s = shape_picture s.shape s.words.now

-- whose memory it is, how it is laid out, and the words behind the planes
abbrev pub PlanarRest : Type 0
PlanarRest = ℕ × Shape × List ℕ

abbrev pub planar_rest : Planar → PlanarRest
planar_rest s = (s.words.ghost_name, s.shape, words_behind s.shape s.words.now)

-- words hold a lawful picture of lawful sizes
words_lawful : (v : Picture) (ws : List ℕ) → LawfulPicture v → LawfulPicture (in_words v ws)
words_lawful v ws l = record {
  depth_range = l.depth_range;
  no_width = l.no_width;
  no_height = l.no_height;
  below = λ p r c.
      cond_both (inside v p r c) _ 0 (λ x. x < 2 ^ v.depth)
      (λ _. mod_below (slice_index ws (word_at v p r c)) (2 ^ v.depth) (pow_pos v.depth))
      (λ _. pow_pos v.depth);
  outside = λ p r c. cond-false (inside v p r c) (slice_index ws (word_at v p r c) % 2 ^ v.depth) 0;
}

pub planar_lawful : (s : Planar) → LawfulPicture (planar_picture s)
planar_lawful s = words_lawful (blank s.shape) s.words.now s.laid.sizes

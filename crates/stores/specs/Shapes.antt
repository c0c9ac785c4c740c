-- What a planar store keeps of its format: sizes of planes, where each begins, and the depth.
use Rattle.std.specs.Prelude.{◌≡◌, ℕ, ◌<◌, ◌≤◌, cond, List, [], ◌∷◌, drop, Some, None, Option, slice_index_or}
use Rattle.theory.specs.Answers.{is_none}
use Rattle.theory.specs.Formats.{Format, Part, plane_width, plane_height}
use Rattle.theory.specs.Pictures.{Picture, LawfulPicture, inside, columns_inside}
use Rattle.formats.specs.Frames.{frame_of}
use Rattle.stores.specs.declared.shape.Plane.{Plane}
use Rattle.stores.specs.declared.shape.Shape.{Shape}
use Rattle.stores.specs.Words.{plane_start, word_at, in_words, planar_refusal}

abbrev pub no_plane : Plane
no_plane = record { size = record { width = 0; height = 0 }; start = 0 }

-- a plane of a shape; that of no size where it is not there
abbrev pub plane_of : Shape → ℕ → Plane
plane_of s p = slice_index_or s.planes p no_plane

-- the sizes and the depth, all samples 0
abbrev pub blank : Shape → Picture
blank s = record {
  planes = s.plane_count;
  width = λ p. (plane_of s p).size.width;
  height = λ p. (plane_of s p).size.height;
  depth = s.depth;
  sample = λ _ _ _. 0;
}

-- the picture of a store of this shape over these words
abbrev pub shape_picture : Shape → List ℕ → Picture
shape_picture s ws = in_words (blank s) ws

-- the words of all planes, and the words behind them
abbrev pub shape_words : Shape → ℕ
shape_words s = plane_start (blank s).width (blank s).height 3

abbrev pub words_behind : Shape → List ℕ → List ℕ
words_behind s ws = drop (shape_words s) ws

-- what a planar store over n words keeps of its shape: lawful sizes, planes one behind the other, and a word for each sample
pub record LaidOut (s : Shape) (n : ℕ) : Type 0 where
  pub sizes : LawfulPicture (blank s)
  pub few : s.plane_count ≤ 3
  pub starts : (p : ℕ) → p < 3 → (plane_of s p).start ≡ plane_start (blank s).width (blank s).height p
  pub long : shape_words s ≤ n

-- the word of a place, where there is such a place
abbrev pub place_word : Picture → ℕ → ℕ → ℕ → Option ℕ
place_word v p r c = cond (inside v p r c) (Some (word_at v p r c)) None

-- the word of the first of n columns of a row, where there are such columns
abbrev pub first_word : Picture → ℕ → ℕ → ℕ → ℕ → Option ℕ
first_word v p r c n = cond (columns_inside v p r c n) (Some (word_at v p r c)) None

-- a plane of a frame; the shape of a format's frame, and that of no planes
abbrev pub frame_plane : Part → ℕ → Plane
frame_plane t p = record {
  size = record { width = plane_width t p; height = plane_height t p };
  start = plane_start (plane_width t) (plane_height t) p;
}

abbrev pub frame_shape : Format → Shape
frame_shape f =
    let t = frame_of f in
    record { plane_count = f.kind.planes; planes = frame_plane t 0 ∷ frame_plane t 1 ∷ frame_plane t 2 ∷ []; depth = f.depth }

abbrev pub no_shape : Shape
no_shape = record { plane_count = 0; planes = no_plane ∷ no_plane ∷ no_plane ∷ []; depth = 1 }

-- the shape of the store of a format's frame over so many words
abbrev pub shape_over : Format → ℕ → Shape
shape_over f n = cond (is_none (planar_refusal f n)) (frame_shape f) no_shape

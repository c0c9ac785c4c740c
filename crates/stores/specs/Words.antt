-- Pictures kept in words: plane after plane from plane 0, row after row, one word for each sample.
use Rattle.std.specs.Prelude.{ℕ, zero, suc, ◌+◌, ◌*◌, ◌%◌, ◌^◌, cond, not, List, [], ◌∷◌, ◌++◌, length, take, drop, Option, Result, nat_lt, slice_index, slice_set}
use Rattle.theory.specs.Answers.{first_row, is_none, verdict}
use Rattle.theory.specs.Formats.{Format, plane_width, plane_height, lawful_format}
use Rattle.theory.specs.Pictures.{Picture, inside, with_samples, put_refusal, put_row_refusal, no_picture}
use Rattle.formats.specs.Frames.{frame_of, planar_words}

-- where plane p begins: behind all words of the planes in front of it
abbrev pub plane_start : (ℕ → ℕ) → (ℕ → ℕ) → ℕ → ℕ
plane_start width height zero = 0
plane_start width height (suc p) = plane_start width height p + width p * height p

-- the word of a place
abbrev pub word_at : Picture → ℕ → ℕ → ℕ → ℕ
word_at v p r c = plane_start v.width v.height p + r * v.width p + c

-- the picture of these sizes and this depth that words hold: a sample is its word's remainder by 2 ^ depth
abbrev pub in_words : Picture → List ℕ → Picture
in_words v ws = with_samples v (λ p r c. cond (inside v p r c) (slice_index ws (word_at v p r c) % 2 ^ v.depth) 0)

-- the words that a put leaves: the place's word is the value, where the put is not refused
abbrev pub words_after : Picture → List ℕ → ℕ → ℕ → ℕ → ℕ → List ℕ
words_after v ws p r c x = cond (is_none (put_refusal v p r c x)) (slice_set ws (word_at v p r c) x) ws

-- the words that putting a row leaves: from the first place's word on they are the values, where the row is not refused
abbrev pub row_words_after : Picture → List ℕ → ℕ → ℕ → ℕ → List ℕ → List ℕ
row_words_after v ws p r c xs =
    let at = word_at v p r c in
    cond (is_none (put_row_refusal v p r c xs)) (take at ws ++ xs ++ drop (at + length xs) ws) ws

-- the sizes and the depth of a format's frame, all samples 0
abbrev pub blank_frame : Format → Picture
blank_frame f = record {
  planes = f.kind.planes;
  width = plane_width (frame_of f);
  height = plane_height (frame_of f);
  depth = f.depth;
  sample = λ _ _ _. 0;
}

-- why so many words do not serve as the store of a format's frame: 4 where the format is outside the limits, then 3 where they are too few
abbrev pub planar_refusal : Format → ℕ → Option ℕ
planar_refusal f n = first_row ((not (lawful_format f), 4) ∷ (nat_lt n (planar_words f), 3) ∷ [])

abbrev pub planar_check : Format → ℕ → Result (Unit {0}) ℕ
planar_check f n = verdict (planar_refusal f n)

-- the picture of the store of a format's frame over these words
abbrev pub planar_frame : Format → List ℕ → Picture
planar_frame f ws = cond (is_none (planar_refusal f (length ws))) (in_words (blank_frame f) ws) no_picture

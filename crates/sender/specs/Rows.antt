-- The samples of a run of groups, row by row. A run is n groups of unit row u, from place x there on.
use Rattle.std.specs.Prelude.{◌≡◌, ℕ, ◌+◌, ◌*◌, ◌^◌, ◌<◌, ◌≤◌, List, [], map, slice_index}
use Rattle.std.specs.List.{range_with_len}
use Rattle.std.proofs.Common.{get_or}
use Rattle.theory.specs.Layouts.{Layout, group_height, group_width}
use Rattle.theory.specs.Formats.{Part, layout_of}
use Rattle.theory.specs.Pictures.{Picture}

-- n samples of a row, from column c on
abbrev pub row_samples : Picture → ℕ → ℕ → ℕ → ℕ → List ℕ
row_samples v p r c n = map (λ j. v.sample p r (c + j)) (range_with_len 0 n)

-- a run is short, and the numbers of its unit row and its place are no greater than those of a part
pub record ShortRun (u x n : ℕ) : Type 0 where
  pub row : u < 2 ^ 32
  pub place : x < 2 ^ 32
  pub few : n ≤ 64

-- the first words are n samples of a row, from column c on
abbrev pub HoldsRow : Picture → ℕ → ℕ → ℕ → ℕ → List ℕ → Type 0
HoldsRow v p r c n words = (j : ℕ) → j < n → slice_index words j ≡ v.sample p r (c + j)

-- the rows of words are the run's samples in plane p
abbrev pub HoldsPlane : Part → Picture → ℕ → ℕ → ℕ → ℕ → List (List ℕ) → Type 0
HoldsPlane t v u x n p rows =
    let l = layout_of t.format in
    let height = group_height t.format.kind l p in
    let width = group_width l p in
    (d : ℕ) → d < height → HoldsRow v p (u * height + d) (x * width) (n * width) (get_or rows d [])

-- the planes of words are those of every plane
abbrev pub HoldsRun : Part → Picture → ℕ → ℕ → ℕ → List (List (List ℕ)) → Type 0
HoldsRun t v u x n words = (p : ℕ) → p < t.format.kind.planes → HoldsPlane t v u x n p (get_or words p [])

-- the word of position k of group i of the run, and the samples of that group
abbrev pub word_at : Layout → List (List (List ℕ)) → ℕ → ℕ → ℕ
word_at l words i k =
    slice_index (get_or (get_or words (l.plane k) []) (l.row k) []) (i * group_width l (l.plane k) + l.column k)

abbrev pub words_of : Layout → List (List (List ℕ)) → ℕ → List ℕ
words_of l words i = map (λ k. word_at l words i k) (range_with_len 0 l.positions)

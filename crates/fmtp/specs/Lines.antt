-- From the octets of a format line to its entries. Assumes nothing.
use Rattle.std.specs.Prelude.{ℕ, Bool, true, false, cond, not, ◌&&◌, ◌||◌, List, [], ◌∷◌, length, drop, is_some, Some, None, Option, ◌==◌, nat_le, nat_lt}
use Rattle.std.specs.List.{list_all, prefix_len, position_or_len, before_first, after_first, slice_split}

-- the octets in front of the first c, all if there is none
abbrev pub before : ℕ → List ℕ → List ℕ
before c xs = before_first (λ x. x == c) xs

-- the octets behind the first c
abbrev pub behind : ℕ → List ℕ → Option (List ℕ)
behind c xs = cond (nat_lt (position_or_len (λ x. x == c) xs) (length xs)) (Some (after_first (λ x. x == c) xs)) None

-- a space or a tab
abbrev pub blank : ℕ → Bool
blank x = x == 0x20 || x == 0x09

-- a text without the blanks in front
abbrev pub trimmed : List ℕ → List ℕ
trimmed xs = drop (prefix_len blank xs) xs

abbrev pub empty : List ℕ → Bool
empty xs = length xs == 0

-- an octet of a name or a value: 21 to 7E hex, no semicolon
abbrev pub visible : ℕ → Bool
visible x = nat_le 0x21 x && nat_le x 0x7E && not (x == 0x3B)

-- an entry: a name alone, or a name and a value
pub record EntryText : Type 0 where
  pub name : List ℕ
  pub value : Option (List ℕ)

abbrev pub filled : Option (List ℕ) → Bool
filled None = true
filled (Some v) = not (empty v)

-- the entry that a text is: a name, and behind an equals sign a value, each of one octet at least
abbrev pub entry_of : List ℕ → Option EntryText
entry_of text =
    let name = before 0x3D text in
    let value = behind 0x3D text in
    cond (list_all visible text && not (empty name) && filled value) (Some (record { name = name; value = value })) None

-- the pieces of a line between its semicolons
abbrev pub pieces : List ℕ → List (List ℕ)
pieces line = slice_split (λ x. x == 0x3B) line

-- a piece behind a semicolon: one blank or more, then an entry
abbrev pub next_entry : List ℕ → Bool
next_entry p = nat_lt (length (trimmed p)) (length p) && is_some (entry_of (trimmed p))

-- a piece behind a semicolon; the last one may also be blanks alone, or nothing
abbrev pub later_piece : Bool → List ℕ → Bool
later_piece last p = (last && empty (trimmed p)) || next_entry p

abbrev pub is_last : List (List ℕ) → Bool
is_last [] = true
is_last (p ∷ ps) = false

-- the pieces behind the first semicolon
abbrev pub later_fit : List (List ℕ) → Bool
later_fit [] = true
later_fit (p ∷ ps) = later_piece (is_last ps) p && later_fit ps

abbrev pub pieces_fit : List (List ℕ) → Bool
pieces_fit [] = true
pieces_fit (p ∷ ps) = is_some (entry_of p) && later_fit ps

-- a line is empty, or its pieces are entries
abbrev pub well_formed : List ℕ → Bool
well_formed line = empty line || pieces_fit (pieces line)

abbrev pub with_entry : Option EntryText → List EntryText → List EntryText
with_entry None es = []
with_entry (Some e) es = e ∷ es

-- the entries that pieces hold, up to the first that holds none, which in a well-formed line is the closing one
abbrev pub entries_in : List (List ℕ) → List EntryText
entries_in [] = []
entries_in (p ∷ ps) = with_entry (entry_of (trimmed p)) (entries_in ps)

abbrev pub entries : List ℕ → List EntryText
entries line = entries_in (pieces line)

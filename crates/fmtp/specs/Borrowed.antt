-- What the parts of a line that the code holds stand for. Assumes nothing.
use Rattle.std.specs.Prelude.{ℕ, Bool, List, [], ◌∷◌, Some, None, Option}
use Rattle.std.specs.Option.{option_copied}
use Rattle.fmtp.specs.Lines.{EntryText, entries_in, pieces, is_last}
use Rattle.fmtp.specs.declared.entries.Entry.{Entry}
use Rattle.fmtp.specs.declared.entries.Entry.TheVariants.{Flag, Pair}
use Rattle.fmtp.specs.declared.entries.Entries.{Entries}
use Rattle.fmtp.specs.declared.entries.Piece.{Piece}
use Rattle.fmtp.specs.declared.entries.Pieces.{Pieces}

-- the octets of an entry
abbrev pub text_of : Entry → EntryText
text_of (Flag name) = record { name = name.now; value = None }
text_of (Pair name value) = record { name = name.now; value = Some value.now }

-- the pieces of what stands behind a semicolon, where there is one
abbrev pub pieces_behind : Option (List ℕ) → List (List ℕ)
pieces_behind None = []
pieces_behind (Some text) = pieces text

-- the entries that are still to be handed out
abbrev pub entries_left : Entries → List EntryText
entries_left s = entries_in (pieces_behind (option_copied s.rest))

-- a piece's octets, and whether it is the last
abbrev pub piece_of : Piece → List ℕ × Bool
piece_of p = (p.text.now, p.is_last)

-- each piece, with whether it is the last
abbrev pub with_last : List (List ℕ) → List (List ℕ × Bool)
with_last [] = []
with_last (p ∷ ps) = (p, is_last ps) ∷ with_last ps

-- the pieces that are still to be handed out
abbrev pub pieces_left : Pieces → List (List ℕ × Bool)
pieces_left s = with_last (pieces_behind (option_copied s.rest))

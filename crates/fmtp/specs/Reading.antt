-- Reading a format line: the checks in their order, each over the whole line, and the record. Assumes nothing.
use Rattle.std.specs.Prelude.{ℕ, Bool, cond, not, List, length, is_some, Some, None, Ok, Err, Option, Result, nat_lt, find, count_by}
use Rattle.std.specs.List.{list_all, list_any}
use Rattle.std.specs.Str.{bytes_eq}
use Rattle.fmtp.specs.declared.parameters.Parameter.{Parameter}
use Rattle.fmtp.specs.declared.parameters.Parameter.TheVariants as name
use Rattle.records.specs.declared.Record.{Record}
use Rattle.fmtp.specs.Decimals.{◌>>=◌, rate_of}
use Rattle.fmtp.specs.Lines.{EntryText, entries, well_formed}
use Rattle.fmtp.specs.Parameters.{parameter_text, parameters, size_of, max_udp_of, aspect_of, permitted}
use Rattle.fmtp.specs.Consistency.{at_odds}
use Rattle.fmtp.specs.Spellings.{spelled}
use Rattle.fmtp.specs.Values.{
  sampling_text,
  samplings,
  depth_text,
  depths,
  colorimetry_text,
  colorimetries,
  packing_text,
  packings,
  edition_text,
  editions,
  transfer_text,
  transfers,
  range_text,
  ranges,
}

-- 20: over 1,024 octets
abbrev pub too_long : List ℕ → Bool
too_long line = nat_lt 1024 (length line)

-- whether an entry has the name
abbrev pub has_name : List ℕ → EntryText → Bool
has_name n e = bytes_eq e.name n

-- 22: a known name comes twice
abbrev pub repeated : List EntryText → Bool
repeated es = list_any (λ p. nat_lt 1 (count_by (has_name (parameter_text p)) es)) parameters

-- the entry of each parameter
abbrev pub entry_in : List EntryText → Parameter → Option EntryText
entry_in es p = find (has_name (parameter_text p)) es

abbrev pub value_of : Parameter → (Parameter → Option EntryText) → Option (List ℕ)
value_of p at = at p >>= (λ e. e.value)

-- whether a flag is there
abbrev pub flagged : Parameter → (Parameter → Option EntryText) → Bool
flagged p at = is_some (at p)

-- the record that the entries of the parameters give; 24: nothing where a required one is missing
abbrev pub record_of : (Parameter → Option EntryText) → Option Record
record_of at = do
  sampling ← value_of name.Sampling at >>= spelled sampling_text samplings
  depth ← value_of name.Depth at >>= spelled depth_text depths
  width ← value_of name.Width at >>= size_of
  height ← value_of name.Height at >>= size_of
  frame_rate ← value_of name.FrameRate at >>= rate_of
  colorimetry ← value_of name.Colorimetry at >>= spelled colorimetry_text colorimetries
  packing ← value_of name.Packing at >>= spelled packing_text packings
  edition ← value_of name.Edition at >>= spelled edition_text editions
  Some (record {
    sampling = sampling;
    depth = depth;
    width = width;
    height = height;
    frame_rate = frame_rate;
    colorimetry = colorimetry;
    packing = packing;
    edition = edition;
    interlace = flagged name.Interlace at;
    segmented = flagged name.Segmented at;
    transfer = value_of name.Transfer at >>= spelled transfer_text transfers;
    range = value_of name.Range at >>= spelled range_text ranges;
    max_udp = value_of name.MaxUdp at >>= max_udp_of;
    pixel_aspect = value_of name.PixelAspect at >>= aspect_of;
  })

-- 25: parameters contradict each other
abbrev pub consistent : Option Record → Result Record ℕ
consistent None = Err 24
consistent (Some r) = cond (at_odds r) (Err 25) (Ok r)

-- what entries announce, or the number of the first check that fails
abbrev pub reading_entries : List EntryText → Result Record ℕ
reading_entries es =
    cond (repeated es) (Err 22)
    (cond (not (list_all permitted es)) (Err 23)
    (consistent (record_of (entry_in es))))

-- what a line announces, or the number of the first check that fails
abbrev pub reading : List ℕ → Result Record ℕ
reading line =
    cond (too_long line) (Err 20)
    (cond (not (well_formed line)) (Err 21)
    (reading_entries (entries line)))

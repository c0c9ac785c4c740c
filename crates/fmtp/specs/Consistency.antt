-- Which parameters contradict each other. Assumes nothing.
use Rattle.std.specs.Prelude.{ℕ, Bool, true, false, not, ◌&&◌, ◌||◌, List, Some, None, codes, Option}
use Rattle.std.specs.Str.{bytes_eq}
use Rattle.records.specs.declared.Record.{Record}
use Rattle.fmtp.specs.Values.{colorimetry_text, edition_text, range_text, transfer_text}

-- whether a value is spelled so
abbrev pub is : {T : Type 0} → (T → List ℕ) → List ℕ → T → Bool
is spelling text x = bytes_eq (spelling x) text

-- whether a value is there, and is spelled so
abbrev pub says : {T : Type 0} → (T → List ℕ) → List ℕ → Option T → Bool
says spelling text None = false
says spelling text (Some x) = is spelling text x

-- ALPHA and ST2115LOGS3 came with the edition of 2022
abbrev pub new_in_2022 : Record → Bool
new_in_2022 r = is colorimetry_text (codes "ALPHA") r.colorimetry || says transfer_text (codes "ST2115LOGS3") r.transfer

abbrev differ : Bool → Bool → Bool
differ true b = not b
differ false b = b

-- segmented without interlace; FULLPROTECT with BT2100; another edition than the one that the values ask for
abbrev pub at_odds : Record → Bool
at_odds r =
    (r.segmented && not r.interlace)
    || (says range_text (codes "FULLPROTECT") r.range && is colorimetry_text (codes "BT2100") r.colorimetry)
    || differ (is edition_text (codes "ST2110-20:2022") r.edition) (new_in_2022 r)

-- The parameters that a format line can name, and the values that each may have. Assumes nothing.
use Rattle.std.specs.Prelude.{ℕ, Bool, true, false, cond, List, [], ◌∷◌, is_some, Some, None, codes, Option}
use Rattle.std.specs.Str.{bytes_eq}
use Rattle.fmtp.specs.declared.parameters.Parameter.{Parameter}
use Rattle.fmtp.specs.declared.parameters.Parameter.TheVariants.{
  Sampling,
  Depth,
  Width,
  Height,
  FrameRate,
  Colorimetry,
  Packing,
  Edition,
  Interlace,
  Segmented,
  Transfer,
  Range,
  MaxUdp,
  PixelAspect,
}
use Rattle.records.specs.declared.Ratio.{Ratio}
use Rattle.fmtp.specs.Decimals.{decimal_of, ratio_of, rate_of}
use Rattle.fmtp.specs.Lines.{EntryText}
use Rattle.fmtp.specs.Spellings.{spelled}
use Rattle.fmtp.specs.Values.{
  sampling_text,
  samplings,
  depth_text,
  depths,
  colorimetry_text,
  colorimetries,
  packing_text,
  packings,
  edition_text,
  editions,
  transfer_text,
  transfers,
  range_text,
  ranges,
}

abbrev pub parameter_text : Parameter → List ℕ
parameter_text Sampling = codes "sampling"
parameter_text Depth = codes "depth"
parameter_text Width = codes "width"
parameter_text Height = codes "height"
parameter_text FrameRate = codes "exactframerate"
parameter_text Colorimetry = codes "colorimetry"
parameter_text Packing = codes "PM"
parameter_text Edition = codes "SSN"
parameter_text Interlace = codes "interlace"
parameter_text Segmented = codes "segmented"
parameter_text Transfer = codes "TCS"
parameter_text Range = codes "RANGE"
parameter_text MaxUdp = codes "MAXUDP"
parameter_text PixelAspect = codes "PAR"

abbrev pub parameters : List Parameter
parameters =
    Sampling ∷ Depth ∷ Width ∷ Height ∷ FrameRate ∷ Colorimetry ∷ Packing ∷ Edition ∷ Interlace ∷ Segmented ∷ Transfer ∷ Range ∷ MaxUdp
    ∷ PixelAspect ∷ []

-- the parameter that a name stands for; nothing for an unknown name
abbrev pub parameter_of : List ℕ → Option Parameter
parameter_of name = spelled parameter_text parameters name

-- columns or rows
abbrev pub size_of : List ℕ → Option ℕ
size_of value = decimal_of 32767 value

abbrev pub max_udp_of : List ℕ → Option ℕ
max_udp_of value = cond (bytes_eq value (codes "1460")) (Some 1460) None

-- w:h
abbrev pub aspect_of : List ℕ → Option Ratio
aspect_of value = ratio_of 0x3A 32767 value

abbrev pub is_flag : Parameter → Bool
is_flag Interlace = true
is_flag Segmented = true
is_flag _ = false

-- whether a text is a value of the parameter
abbrev pub accepts : Parameter → List ℕ → Bool
accepts Sampling value = is_some (spelled sampling_text samplings value)
accepts Depth value = is_some (spelled depth_text depths value)
accepts Width value = is_some (size_of value)
accepts Height value = is_some (size_of value)
accepts FrameRate value = is_some (rate_of value)
accepts Colorimetry value = is_some (spelled colorimetry_text colorimetries value)
accepts Packing value = is_some (spelled packing_text packings value)
accepts Edition value = is_some (spelled edition_text editions value)
accepts Interlace value = false
accepts Segmented value = false
accepts Transfer value = is_some (spelled transfer_text transfers value)
accepts Range value = is_some (spelled range_text ranges value)
accepts MaxUdp value = is_some (max_udp_of value)
accepts PixelAspect value = is_some (aspect_of value)

-- a flag stands alone, every other parameter has one of its values, and an unknown name may have any
abbrev pub permitted_as : Option Parameter → Option (List ℕ) → Bool
permitted_as None value = true
permitted_as (Some p) None = is_flag p
permitted_as (Some p) (Some value) = accepts p value

abbrev pub permitted : EntryText → Bool
permitted e = permitted_as (parameter_of e.name) e.value

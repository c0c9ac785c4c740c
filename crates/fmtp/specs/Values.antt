-- How a format line spells the values that come from a list, and the lists. Assumes nothing.
use Rattle.std.specs.Prelude.{ℕ, List, [], ◌∷◌, codes}
use Rattle.records.specs.declared.Sampling.{Sampling}
use Rattle.records.specs.declared.Sampling.TheVariants.{
  YCbCr444,
  YCbCr422,
  YCbCr420,
  ClYCbCr444,
  ClYCbCr422,
  ClYCbCr420,
  ICtCp444,
  ICtCp422,
  ICtCp420,
  Rgb,
  Xyz,
  Key,
}
use Rattle.records.specs.declared.Depth.{Depth}
use Rattle.records.specs.declared.Depth.TheVariants.{Bits8, Bits10, Bits12, Bits16, Float16}
use Rattle.records.specs.declared.Colorimetry.{Colorimetry}
use Rattle.records.specs.declared.Colorimetry.TheVariants as color
use Rattle.records.specs.declared.PackingMode.{PackingMode}
use Rattle.records.specs.declared.PackingMode.TheVariants.{General, Block}
use Rattle.records.specs.declared.Edition.{Edition}
use Rattle.records.specs.declared.Edition.TheVariants.{Of2017, Of2022}
use Rattle.records.specs.declared.Range.{Range}
use Rattle.records.specs.declared.Range.TheVariants.{Narrow, Full, FullProtect}
use Rattle.records.specs.declared.Transfer.{Transfer}
use Rattle.records.specs.declared.Transfer.TheVariants as curve

abbrev pub sampling_text : Sampling → List ℕ
sampling_text YCbCr444 = codes "YCbCr-4:4:4"
sampling_text YCbCr422 = codes "YCbCr-4:2:2"
sampling_text YCbCr420 = codes "YCbCr-4:2:0"
sampling_text ClYCbCr444 = codes "CLYCbCr-4:4:4"
sampling_text ClYCbCr422 = codes "CLYCbCr-4:2:2"
sampling_text ClYCbCr420 = codes "CLYCbCr-4:2:0"
sampling_text ICtCp444 = codes "ICtCp-4:4:4"
sampling_text ICtCp422 = codes "ICtCp-4:2:2"
sampling_text ICtCp420 = codes "ICtCp-4:2:0"
sampling_text Rgb = codes "RGB"
sampling_text Xyz = codes "XYZ"
sampling_text Key = codes "KEY"

abbrev pub samplings : List Sampling
samplings =
    YCbCr444 ∷ YCbCr422 ∷ YCbCr420 ∷ ClYCbCr444 ∷ ClYCbCr422 ∷ ClYCbCr420 ∷ ICtCp444 ∷ ICtCp422 ∷ ICtCp420 ∷ Rgb ∷ Xyz ∷ Key ∷ []

abbrev pub depth_text : Depth → List ℕ
depth_text Bits8 = codes "8"
depth_text Bits10 = codes "10"
depth_text Bits12 = codes "12"
depth_text Bits16 = codes "16"
depth_text Float16 = codes "16f"

abbrev pub depths : List Depth
depths = Bits8 ∷ Bits10 ∷ Bits12 ∷ Bits16 ∷ Float16 ∷ []

abbrev pub colorimetry_text : Colorimetry → List ℕ
colorimetry_text color.Bt601 = codes "BT601"
colorimetry_text color.Bt709 = codes "BT709"
colorimetry_text color.Bt2020 = codes "BT2020"
colorimetry_text color.Bt2100 = codes "BT2100"
colorimetry_text color.St2065Part1 = codes "ST2065-1"
colorimetry_text color.St2065Part3 = codes "ST2065-3"
colorimetry_text color.Unspecified = codes "UNSPECIFIED"
colorimetry_text color.Xyz = codes "XYZ"
colorimetry_text color.Alpha = codes "ALPHA"

abbrev pub colorimetries : List Colorimetry
colorimetries =
    color.Bt601 ∷ color.Bt709 ∷ color.Bt2020 ∷ color.Bt2100 ∷ color.St2065Part1 ∷ color.St2065Part3 ∷ color.Unspecified ∷ color.Xyz ∷ color.Alpha ∷ []

abbrev pub packing_text : PackingMode → List ℕ
packing_text General = codes "2110GPM"
packing_text Block = codes "2110BPM"

abbrev pub packings : List PackingMode
packings = General ∷ Block ∷ []

abbrev pub edition_text : Edition → List ℕ
edition_text Of2017 = codes "ST2110-20:2017"
edition_text Of2022 = codes "ST2110-20:2022"

abbrev pub editions : List Edition
editions = Of2017 ∷ Of2022 ∷ []

abbrev pub range_text : Range → List ℕ
range_text Narrow = codes "NARROW"
range_text Full = codes "FULL"
range_text FullProtect = codes "FULLPROTECT"

abbrev pub ranges : List Range
ranges = Narrow ∷ Full ∷ FullProtect ∷ []

abbrev pub transfer_text : Transfer → List ℕ
transfer_text curve.Sdr = codes "SDR"
transfer_text curve.Pq = codes "PQ"
transfer_text curve.Hlg = codes "HLG"
transfer_text curve.Linear = codes "LINEAR"
transfer_text curve.Bt2100LinearPq = codes "BT2100LINPQ"
transfer_text curve.Bt2100LinearHlg = codes "BT2100LINHLG"
transfer_text curve.St2065Part1 = codes "ST2065-1"
transfer_text curve.St428Part1 = codes "ST428-1"
transfer_text curve.Density = codes "DENSITY"
transfer_text curve.St2115LogS3 = codes "ST2115LOGS3"
transfer_text curve.Unspecified = codes "UNSPECIFIED"

abbrev pub transfers : List Transfer
transfers =
    curve.Sdr ∷ curve.Pq ∷ curve.Hlg ∷ curve.Linear ∷ curve.Bt2100LinearPq ∷ curve.Bt2100LinearHlg ∷ curve.St2065Part1 ∷ curve.St428Part1
    ∷ curve.Density ∷ curve.St2115LogS3 ∷ curve.Unspecified ∷ []

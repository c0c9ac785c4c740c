-- The format that a record announces. Assumes nothing.
use Rattle.std.specs.Prelude.{ℕ, Bool, cond, ◌&&◌, Ok, Err, Result}
use Rattle.records.specs.declared.Record.{Record}
use Rattle.records.specs.Depths.{depth_bits}
use Rattle.records.specs.declared.PackingMode.{PackingMode}
use Rattle.records.specs.declared.PackingMode.TheVariants.{General, Block}
use Rattle.records.specs.declared.Sampling.{Sampling}
use Rattle.records.specs.declared.Sampling.TheVariants.{
  YCbCr444,
  YCbCr422,
  YCbCr420,
  ClYCbCr444,
  ClYCbCr422,
  ClYCbCr420,
  ICtCp444,
  ICtCp422,
  ICtCp420,
  Rgb,
  Xyz,
  Key,
}
use Rattle.refusals.specs.declared.Refusal.{Refusal}
use Rattle.refusals.specs.Numbers.{number_of}
use Rattle.theory.specs.Layouts.{Kind}
use Rattle.theory.specs.Formats as formats
use Rattle.formats.specs.declared.format.Format.{Format}
use Rattle.formats.specs.Meaning.{format_of}

-- the row of the table of kinds that carries a sampling: 4:4:4, RGB, XYZ, 4:2:2, 4:2:0, KEY
abbrev pub table_row : Sampling → ℕ
table_row YCbCr444 = 0
table_row ClYCbCr444 = 0
table_row ICtCp444 = 0
table_row Rgb = 1
table_row Xyz = 2
table_row YCbCr422 = 3
table_row ClYCbCr422 = 3
table_row ICtCp422 = 3
table_row YCbCr420 = 4
table_row ClYCbCr420 = 4
table_row ICtCp420 = 4
table_row Key = 5

-- progressive, interlaced, or progressive segmented
abbrev pub scan_of : Record → ℕ
scan_of r = cond r.interlace (cond r.segmented 2 1) 0

abbrev pub mode_of : PackingMode → ℕ
mode_of General = 1
mode_of Block = 2

abbrev pub format_announced : Kind → Record → ℕ → ℕ → formats.Format
format_announced kind r type source = record {
  kind = kind;
  depth = depth_bits r.depth;
  width = r.width;
  height = r.height;
  scan = scan_of r;
  mode = mode_of r.packing;
  payload_type = type;
  ssrc = source;
}

-- the format, for the kind of the sampling alone and inside the limits; else 4
abbrev pub announced : (Sampling → Bool) → Kind → Record → ℕ → ℕ → Result formats.Format ℕ
announced served kind r type source =
    cond (served r.sampling && formats.lawful_format (format_announced kind r type source)) (Ok (format_announced kind r type source)) (Err 4)

-- an answer of the code, as these definitions have it
abbrev pub outcome : {K : Type 0} → (K → Kind) → Result (Format K) Refusal → Result formats.Format ℕ
outcome kind (Ok f) = Ok (format_of kind f)
outcome kind (Err e) = Err (number_of e)

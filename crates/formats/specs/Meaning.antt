-- The formats and parts of `theory` that those of the code stand for. Assumes nothing.
use Rattle.std.specs.Prelude.{ℕ, cond, Ok, Err, Result}
use Rattle.theory.specs.Layouts.{Kind}
use Rattle.theory.specs.Formats as formats
use Rattle.formats.specs.declared.format.Format.{Format}
use Rattle.formats.specs.declared.part.Part.{Part}

abbrev pub format_of : {K : Type 0} → (K → Kind) → Format K → formats.Format
format_of kind f = record {
  kind = kind f.kind;
  depth = f.depth;
  width = f.width;
  height = f.height;
  scan = f.scan;
  mode = f.mode;
  payload_type = f.payload_type;
  ssrc = f.ssrc;
}

-- 4 where the format is outside the limits
abbrev pub format_check : formats.Format → Result (Unit {0}) ℕ
format_check f = cond (formats.lawful_format f) (Ok tt) (Err 4)

abbrev pub part_of : {K : Type 0} → (K → Kind) → Part K → formats.Part
part_of kind p = record { format = format_of kind p.format; timestamp = p.timestamp; field = p.field }

-- 4 where the format is outside the limits, then 5 where it has no such field
abbrev pub part_check : formats.Part → Result (Unit {0}) ℕ
part_check t = cond (formats.lawful_format t.format) (cond (formats.lawful_field t.format t.field) (Ok tt) (Err 5)) (Err 4)

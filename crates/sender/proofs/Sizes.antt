-- What a lawful part gives in numbers that its packets need.
use Rattle.std.proofs.Common.{◌≡◌, ℕ, ◌*◌, ◌/◌, ◌%◌, ◌<◌, ◌≤◌, arith}
use Rattle.std.proofs.lemmas.Nat.{mul-le}
use Rattle.theory.specs.Layouts.{LawfulKind}
use Rattle.theory.specs.Formats.{Part, layout_of, row_groups, rows, unit_rows, groups}
use Rattle.theory.proofs.Ceils.{ceil_le}
use Rattle.theory.proofs.Positions as positions
use Rattle.theory.proofs.Limits as numbers
use Rattle.theory.proofs.Limits.{Limits, row_inside, offset_inside}
use Rattle.formats.specs.Meaning.{part_of}
use Rattle.kinds.specs.declared.kind.GroupKind as GroupKind
use Rattle.stores.specs.declared.store.Store as Store
use Rattle.sender.specs.declared.source.Source.{Source}
use Rattle.sender.specs.Tested.{Tested}

-- timestamp and SSRC have no part in them
pub limits : {t : Part} → LawfulKind t.format.kind → Tested t → Limits t
limits {t} laws p =
    let f = t.format in
    let plain : Part = record {
      format = record {
        kind = f.kind;
        depth = f.depth;
        width = f.width;
        height = f.height;
        scan = f.scan;
        mode = f.mode;
        payload_type = f.payload_type;
        ssrc = 0;
      };
      timestamp = 0;
      field = t.field;
    } in
    let w = numbers.limits plain (record {
      lawful_kind = laws;
      format_allowed = p.format_allowed;
      field_allowed = p.field_allowed;
      timestamp_fits = omega arith;
      ssrc_fits = omega arith;
    }) in
    record {
      layout = w.layout;
      octets_pos = w.octets_pos;
      width_range = w.width_range;
      rows_pos = w.rows_pos;
      rows_small = w.rows_small;
      type_range = w.type_range;
      field_small = w.field_small;
      row_pos = w.row_pos;
      modes = w.modes;
    }

pub limits_of : {K S : Type 0} {k : GroupKind.Ghosts K} {p : Store.Ghosts S} → ((x : K) → LawfulKind (k.kind x)) → (s : Source K S k p)
    → Limits (part_of k.kind s.part.now)
limits_of laws s = limits (laws s.part.now.format.kind) s.tested

pub few_octets : {t : Part} → Limits t → (layout_of t.format).octets ≤ 48
few_octets {t} w = positions.few_octets t.format.kind t.format.depth w.layout

pub few_row_groups : {t : Part} → Limits t → row_groups t.format ≤ 32767
few_row_groups {t} w = omega (arith, ceil_le t.format.width (layout_of t.format).columns w.layout.columns_range.0, w.width_range)

pub few_groups : {t : Part} → Limits t → groups t ≤ 1073676289
few_groups {t} w =
    mul-le (unit_rows t) (row_groups t.format) 32767 32767
    (omega (arith, ceil_le (rows t) t.format.kind.rows w.layout.rows_range.0, w.rows_small))
    (few_row_groups w)

-- the row and the offset of a group have 15 bits
pub row_small : {t : Part} {g R height : ℕ} → Limits t → R ≡ row_groups t.format → height ≡ t.format.kind.rows → g < groups t
    → g / R * height < 32768
row_small {t} {g} w e h inside = rw (e, h) (omega (arith, row_inside t w g inside, w.rows_small))

pub offset_small : {t : Part} (g : ℕ) {R width : ℕ} → Limits t → R ≡ row_groups t.format → width ≡ (layout_of t.format).columns
    → g % R * width < 32768
offset_small {t} g w e h = rw (e, h) (omega (arith, offset_inside t w g, w.width_range))

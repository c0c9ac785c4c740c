-- What holds where a line leaves a parameter out. Assumes nothing.
use Rattle.std.specs.Prelude.{ℕ}
use Rattle.std.specs.Option.{unwrap_or}
use Rattle.records.specs.declared.Record.{Record}
use Rattle.records.specs.declared.Ratio.{Ratio}
use Rattle.records.specs.declared.Range.{Range}
use Rattle.records.specs.declared.Range.TheVariants.{Narrow}
use Rattle.records.specs.declared.Transfer.{Transfer}
use Rattle.records.specs.declared.Transfer.TheVariants.{Sdr}

-- SDR, NARROW, 1460 and 1:1 hold where the line does not say otherwise
abbrev pub transfer_told : Record → Transfer
transfer_told r = unwrap_or r.transfer Sdr

abbrev pub range_told : Record → Range
range_told r = unwrap_or r.range Narrow

abbrev pub max_udp_told : Record → ℕ
max_udp_told r = unwrap_or r.max_udp 1460

abbrev pub pixel_aspect_told : Record → Ratio
pixel_aspect_told r = unwrap_or r.pixel_aspect (record { numerator = 1; denominator = 1 })

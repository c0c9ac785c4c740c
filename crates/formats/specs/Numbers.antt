-- The numbers of the scans and of the packing modes. Assumes nothing.
use Rattle.std.specs.Prelude.{◌≡◌, ℕ, ◌<◌, ◌⊎◌, Result, MatchResult}
use Rattle.refusals.specs.declared.Refusal.{Refusal}
use Rattle.refusals.specs.declared.Refusal.TheVariants.{FormatOutsideLimits}
use Rattle.formats.specs.declared.scan.Scan.{Scan}
use Rattle.formats.specs.declared.scan.Scan.TheVariants.{Progressive, Interlaced, Segmented}
use Rattle.formats.specs.declared.mode.Mode.{Mode}
use Rattle.formats.specs.declared.mode.Mode.TheVariants.{General, Block}

abbrev pub scan_number : Scan → ℕ
scan_number Progressive = 0
scan_number Interlaced = 1
scan_number Segmented = 2

abbrev pub mode_number : Mode → ℕ
mode_number General = 1
mode_number Block = 2

-- the answer is the scan with the number, or refusal 4 for a number that no scan has
abbrev pub NumbersScan : ℕ → Result Scan Refusal → Type 0
NumbersScan n r = MatchResult r (λ scan. scan_number scan ≡ n) (λ e. (e ≡ FormatOutsideLimits) × (2 < n))

-- the same of modes
abbrev pub NumbersMode : ℕ → Result Mode Refusal → Type 0
NumbersMode n r = MatchResult r (λ mode. mode_number mode ≡ n) (λ e. (e ≡ FormatOutsideLimits) × ((n < 1) ⊎ (2 < n)))

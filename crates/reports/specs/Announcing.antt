-- From a record to the format of its sampling's kind, and to what a task does with it. Assumes nothing.
use Rattle.std.specs.Prelude.{◌≡◌, ℕ, true, Ok, Err, Result}
use Rattle.records.specs.declared.Record.{Record}
use Rattle.records.specs.declared.Sampling.{Sampling}
use Rattle.records.specs.declared.Sampling.TheVariants.{
  YCbCr444,
  YCbCr422,
  YCbCr420,
  ClYCbCr444,
  ClYCbCr422,
  ClYCbCr420,
  ICtCp444,
  ICtCp422,
  ICtCp420,
  Rgb,
  Xyz,
  Key,
}
use Rattle.refusals.specs.declared.Refusal.{Refusal}
use Rattle.refusals.specs.Numbers.{number_of}
use Rattle.theory.specs.Layouts.{Kind}
use Rattle.theory.specs.Kinds.{ycc444, ycc422, ycc420, rgb, xyz, key}
use Rattle.theory.specs.Formats.{Format}
use Rattle.formats.specs.Announced.{announced}

-- the kind whose groups carry a sampling
abbrev pub kind_for : Sampling → Kind
kind_for YCbCr444 = ycc444
kind_for ClYCbCr444 = ycc444
kind_for ICtCp444 = ycc444
kind_for YCbCr422 = ycc422
kind_for ClYCbCr422 = ycc422
kind_for ICtCp422 = ycc422
kind_for YCbCr420 = ycc420
kind_for ClYCbCr420 = ycc420
kind_for ICtCp420 = ycc420
kind_for Rgb = rgb
kind_for Xyz = xyz
kind_for Key = key

-- the format that a record announces, of the kind of its sampling; else 4
abbrev pub announced_for : Record → ℕ → ℕ → Result Format ℕ
announced_for r type source = announced (λ _. true) (kind_for r.sampling) r type source

-- the task was done with the format, or was not begun for this refusal and stays
abbrev pub Announces : {T F O : Type 0} → Result F ℕ → (T → F → O → T → Type 0) → T → Result O Refusal → T → Type 0
Announces (Ok f) leaves before (Ok out) after = leaves before f out after
Announces (Err n) leaves before (Err e) after = (number_of e ≡ n) × (after ≡ before)
Announces (Ok f) leaves before (Err e) after = ⊥
Announces (Err n) leaves before (Ok out) after = ⊥

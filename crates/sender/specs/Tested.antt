-- A part whose format and field were tested. That its kind has the laws is known of every kind.
use Rattle.std.specs.Prelude.{◌≡◌, true}
use Rattle.theory.specs.Formats.{Part, lawful_format, lawful_field}

pub record Tested (t : Part) : Type 0 where
  pub format_allowed : lawful_format t.format ≡ true
  pub field_allowed : lawful_field t.format t.field ≡ true

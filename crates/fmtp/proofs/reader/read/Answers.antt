use Rattle.std.proofs.Common.{◌≡◌, length, sym, ap, ◌∙◌}
use Rattle.std.proofs.lemmas.Bool.{le-ltb}
use Rattle.refusals.specs.Numbers.{numbered}
use Rattle.fmtp.specs.Reading.{reading, reading_entries}
use Rattle.fmtp.specs.Same.{Legible}
use Rattle.fmtp.proofs.Order.{legible_reading, same_answer}
use Rattle.fmtp.proofs.reader.read.Goals as goal

pub returns : goal.returns
returns c =
    let line = c.args.line.now in
    let legible : Legible line = record { short = le-ltb 1024 (length line) c.if-line-gt-MAX_LINE.false; formed = sym c.if-not-is_well_formed.ensures } in
    let answer : numbered c.read_entries.result ≡ reading line =
    c.read_entries.ensures ∙ ap reading_entries c.of.ensures ∙ sym (legible_reading line legible) in
    record { answer = answer; order = λ other same. answer ∙ same_answer line other same }

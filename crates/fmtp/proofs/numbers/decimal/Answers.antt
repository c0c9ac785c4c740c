use Rattle.std.proofs.Common.{sym, ◌∙◌, rules}
use Rattle.fmtp.proofs.Decimal.{some_text, read}
use Rattle.fmtp.proofs.numbers.decimal.Goals as goal

pub returns-in_err-ok : goal.returns-in_err-ok
returns-in_err-ok c =
    absurd (some_text _ c.args.text.now c.from_utf8.result c.from_utf8.ensures.cases (sym c.if-not-is_digits.ensures)
    (sym c.ok.ensures.value ∙ c.in_err-ok.was))

pub returns-in_err-number : goal.returns-in_err-number
returns-in_err-number c =
    c.from_residual-in_err-number.ensures
    ∙ read _ c.args.text.now c.from_utf8.result c.from_utf8.ensures.cases (sym c.if-not-is_digits.ensures) c.args.limit (search rules)
    (sym c.if-starts_with.ensures.value) c.in_ok-ok.field-0
    (sym c.ok.ensures.value ∙ c.in_ok-ok.was) c.parse.result c.parse.ensures.value.0 _ (sym c.ok-2.ensures.value ∙ c.in_err-number.was)

pub returns : goal.returns
returns c =
    c.then_some.ensures
    ∙ read _ c.args.text.now c.from_utf8.result c.from_utf8.ensures.cases (sym c.if-not-is_digits.ensures) c.args.limit (search rules)
    (sym c.if-starts_with.ensures.value) c.in_ok-ok.field-0
    (sym c.ok.ensures.value ∙ c.in_ok-ok.was) c.parse.result c.parse.ensures.value.0 _ (sym c.ok-2.ensures.value ∙ c.in_ok-number.was)

use Rattle.std.proofs.Common.{length, Err, ap, ◌∙◌}
use Rattle.std.proofs.lemmas.Result.{err_from_is_err_and}
use Rattle.refusals.specs.Numbers.{number_of, numbered}
use Rattle.formats.specs.Meaning.{format_of}
use Rattle.stores.proofs.Checks.{format_refused, memory_short, memory_serves}
use Rattle.stores.proofs.planar.Planar.check.Goals as goal

pub returns-in_err-check : goal.returns-in_err-check
returns-in_err-check g c =
    let p = err_from_is_err_and c.from_residual.result c.from_residual.ensures.1 in
    ap numbered p.1 ∙ ap (λ e. Err (number_of e)) p.2
    ∙ format_refused (format_of g.K.GroupKind.kind c.args.format.now) (length c.args.words.now) _ c.in_err-check.ensures

pub returns-then-words-planar_words : goal.returns-then-words-planar_words
returns-then-words-planar_words g c =
    memory_short (format_of g.K.GroupKind.kind c.args.format.now) (length c.args.words.now)
    c.planar_words.result c.planar_words.ensures c.in_ok-check.ensures c.if-words-planar_words.true

pub returns : goal.returns
returns g c =
    memory_serves (format_of g.K.GroupKind.kind c.args.format.now) (length c.args.words.now)
    c.planar_words.result c.planar_words.ensures c.in_ok-check.ensures c.if-words-planar_words.false

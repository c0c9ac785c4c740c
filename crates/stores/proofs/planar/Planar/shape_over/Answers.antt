use Rattle.std.proofs.Common.{length, ◌∙◌}
use Rattle.formats.specs.Meaning.{format_of}
use Rattle.stores.specs.Words.{planar_refusal}
use Rattle.stores.proofs.Checks.{not_refused, refused}
use Rattle.stores.proofs.planar.Planar.shape_over.Goals as goal

pub returns-in-Ok : goal.returns-in-Ok
returns-in-Ok g c =
    c.of_frame.ensures ∙ not_refused (planar_refusal (format_of g.K.GroupKind.kind c.args.format.now) (length c.args.words.now)) _ _ c.in-Ok.ensures

pub returns-in-Err : goal.returns-in-Err
returns-in-Err g c =
    c.none.ensures ∙ refused (planar_refusal (format_of g.K.GroupKind.kind c.args.format.now) (length c.args.words.now)) _ _ _ c.in-Err.ensures

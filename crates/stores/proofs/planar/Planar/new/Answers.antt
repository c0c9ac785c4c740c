use Rattle.std.proofs.Common.{length, sym, refl, ap, ◌∙◌, subst}
use Rattle.formats.specs.Meaning.{format_of}
use Rattle.stores.specs.declared.shape.Shape.{Shape}
use Rattle.stores.specs.Shapes.{LaidOut, shape_picture}
use Rattle.stores.proofs.Frames.{over_laid, over_picture}
use Rattle.stores.proofs.planar.Planar.new.Goals as goal

pub invariant_of-result : goal.invariant_of-result
invariant_of-result g c =
    let n = length c.args.words.now in
    let P : Shape → Type 0 = λ s. LaidOut s n in
    let made = over_laid (format_of g.K.GroupKind.kind c.args.format.now) (g.met.K.GroupKind.lawful c.args.format.now.kind) n in
    record { laid = subst P (sym c.shape_over-shape.ensures) made }

pub returns-clause-picture : goal.returns-clause-picture
returns-clause-picture g c =
    let ws = c.args.words.now in
    ap (λ s. shape_picture s ws) c.shape_over-shape.ensures
    ∙ over_picture (format_of g.K.GroupKind.kind c.args.format.now) (g.met.K.GroupKind.lawful c.args.format.now.kind) (length ws) ws refl

use Rattle.std.proofs.Common.{length, is_ok, sym, ap, ◌∙◌, subst}
use Rattle.formats.specs.Meaning.{format_of}
use Rattle.packed.specs.Packs.{packed_refusal}
use Rattle.packed.specs.Grids.{Made}
use Rattle.packed.proofs.Makings.{good, made, refused}
use Rattle.packed.proofs.grid.Grid.new.Goals as goal

pub returns-in-Ok-clause-made : goal.returns-in-Ok-clause-made
returns-in-Ok-clause-made g c =
    let f = format_of g.K.GroupKind.kind c.args.format.now in
    let room = length c.args.octets.now in
    let passes = sym (good c.check.result (packed_refusal f room) c.check.ensures) ∙ ap is_ok c.in-Ok.is in
    made f room c.of.result (g.met.K.GroupKind.lawful c.args.format.now.kind) passes c.of.ensures

pub returns-in-Err-clause-made : goal.returns-in-Err-clause-made
returns-in-Err-clause-made g c =
    let f = format_of g.K.GroupKind.kind c.args.format.now in
    let room = length c.args.octets.now in
    let fails = sym (good c.check.result (packed_refusal f room) c.check.ensures) ∙ ap is_ok c.in-Err.is in
    subst (Made f room) (sym c.empty.ensures) (refused f room fails)

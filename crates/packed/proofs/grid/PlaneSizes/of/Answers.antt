use Rattle.std.proofs.Common.{◌≡◌, ◌*◌, ◌<◌, sym, ap, ◌∙◌, ap₂, subst, rules}
use Rattle.theory.specs.Layouts.{group_width, group_height}
use Rattle.theory.specs.Formats.{layout_of, plane_width, plane_height}
use Rattle.formats.specs.Frames.{frame_of}
use Rattle.formats.specs.Meaning.{format_of}
use Rattle.packed.proofs.Linking.{part_covered}
use Rattle.packed.proofs.Makings.{lawful_at}
use Rattle.packed.proofs.grid.PlaneSizes.of.Goals as goal

pub invariant_of-result : goal.invariant_of-result
invariant_of-result g c =
    let f = format_of g.K.GroupKind.kind c.args.format.now in
    let p = c.args.plane in
    let w = lawful_at f (g.met.K.GroupKind.lawful c.args.format.now.kind) c.requires in
    let rows : c.plane_height.result ≡ plane_height (frame_of f) p = c.plane_height.ensures.value ∙ ap (λ t. plane_height t p) c.frame-frame.ensures in
    let high : c.unwrap_or-2.result ≡ group_height f.kind (layout_of f) p = search rules in
    let wide : c.unwrap_or.result ≡ group_width (layout_of f) p = search rules in
    record {
      covered = λ h. subst (λ x. 0 < x) (sym (ap₂ (λ x y. x * y) high wide)) (part_covered (frame_of f) w p (subst (λ x. 0 < x) rows h));
    }

pub returns : goal.returns
returns g c =
    let p = c.args.plane in
    record {
      width = c.plane_width.ensures.value ∙ ap (λ t. plane_width t p) c.frame-frame.ensures;
      height = c.plane_height.ensures.value ∙ ap (λ t. plane_height t p) c.frame-frame.ensures;
      group_width = search rules;
      group_height = search rules;
    }

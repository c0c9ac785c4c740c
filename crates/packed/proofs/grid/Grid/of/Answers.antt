use Rattle.std.proofs.Common.{◌/◌, ◌≤◌, ltb, sym, refl, ap, ◌∙◌, subst, rules, arith}
use native.Mathlib.Nat.{div-zero}
use Rattle.std.proofs.lemmas.Bool.{cond-false, le-ltb}
use Rattle.formats.specs.Frames.{frame_of}
use Rattle.formats.specs.Meaning.{format_of}
use Rattle.theory.specs.Formats.{layout_of, plane_width, plane_height}
use Rattle.theory.specs.Layouts.{group_width, group_height}
use Rattle.theory.proofs.Positions.{few_octets}
use Rattle.packed.specs.Grids.{SizesOf, PlaceOf}
use Rattle.packed.proofs.Makings.{lawful_at}
use Rattle.packed.proofs.Tables.{table_tells, each_made}
use Rattle.packed.proofs.grid.Grid.of.Goals as goal

pub overflow_cast-result-3 : goal.overflow_cast-result-3
overflow_cast-result-3 g c =
    let f = format_of g.K.GroupKind.kind c.args.format.now in
    let w = lawful_at f (g.met.K.GroupKind.lawful c.args.format.now.kind) c.requires in
    let few : c.group_octets.result ≤ 48 = subst (λ n. n ≤ 48) (sym c.group_octets.ensures) (few_octets f.kind f.depth w) in
    search rules

pub overflow_cast-result-4 : goal.overflow_cast-result-4
overflow_cast-result-4 g c =
    let f = format_of g.K.GroupKind.kind c.args.format.now in
    let w = lawful_at f (g.met.K.GroupKind.lawful c.args.format.now.kind) c.requires in
    let few : c.positions.result ≤ 24 = subst (λ n. n ≤ 24) (sym c.positions.ensures) w.positions_range.1 in
    search rules

pub invariant_of-result : goal.invariant_of-result
invariant_of-result g c =
    let f = format_of g.K.GroupKind.kind c.args.format.now in
    let w = lawful_at f (g.met.K.GroupKind.lawful c.args.format.now.kind) c.requires in
    record {
      deep = omega (arith, w.depth_range.0);
      narrow = w.depth_range.1;
      few = subst (λ n. n ≤ 24) (sym c.positions.ensures) w.positions_range.1;
    }

pub returns : goal.returns
returns g c =
    let f = format_of g.K.GroupKind.kind c.args.format.now in
    let t = frame_of f in
    let l = layout_of f in
    let n = f.kind.planes in
    let laws = g.met.K.GroupKind.lawful c.args.format.now.kind in
    let w = lawful_at f laws c.requires in
    let few = w.planes_range.1 in
    let many = w.positions_range.1 in
    let no_plane = (laws.elsewhere f.depth).no_plane in
    let no_position = (laws.elsewhere f.depth).no_position in
    let sizes = each_made (λ p x. SizesOf x t p) c.from_fn.ensures.items (λ p x q h called. (search rules, search rules)) in
    let places = each_made (λ k x. PlaceOf x l k) c.from_fn-2.ensures.items (λ k x q h called. (search rules, search rules)) in
    let three = c.from_fn.ensures.items.long in
    let all = c.from_fn-2.ensures.items.long in
    record {
      planes = c.plane_count.ensures;
      depth = refl;
      octets = c.group_octets.ensures;
      positions = c.positions.ensures;
      across = c.row_groups.ensures.value;
      size = c.packed_octets.ensures;
      widths = table_tells (λ x. x.width) (plane_width t) c.from_fn.result 3 three (λ p e h. (sizes p e h).width)
          (λ p h. cond-false (ltb p n) _ 0 (le-ltb p n (omega arith)));
      heights = table_tells (λ x. x.height) (plane_height t) c.from_fn.result 3 three (λ p e h. (sizes p e h).height)
          (λ p h. cond-false (ltb p n) _ 0 (le-ltb p n (omega arith)));
      inner_widths = table_tells (λ x. x.group_width) (group_width l) c.from_fn.result 3 three (λ p e h. (sizes p e h).group_width)
          (λ p h. ap (λ s. l.columns / s) (no_plane p (omega arith)).0 ∙ div-zero l.columns);
      inner_heights = table_tells (λ x. x.group_height) (group_height f.kind l) c.from_fn.result 3 three (λ p e h. (sizes p e h).group_height)
          (λ p h. ap (λ s. f.kind.rows / s) (no_plane p (omega arith)).1 ∙ div-zero f.kind.rows);
      places = record {
        plane = table_tells (λ x. x.plane) l.plane c.from_fn-2.result 24 all (λ k e h. (places k e h).plane) (λ k h. (no_position k (omega arith)).0);
        row = table_tells (λ x. x.row) l.row c.from_fn-2.result 24 all (λ k e h. (places k e h).row) (λ k h. (no_position k (omega arith)).1);
        column = table_tells (λ x. x.column) l.column c.from_fn-2.result 24 all (λ k e h. (places k e h).column) (λ k h. (no_position k (omega arith)).2);
      };
    }

use Rattle.std.proofs.Common.{◌+◌, ◌%◌, ◌<◌, refl, div-add-mod', div-le_self, arith}
use Rattle.std.proofs.lemmas.Nat.{mod_below}
use Rattle.sender.proofs.Sizes.{limits_of, few_row_groups}
use Rattle.sender.proofs.runs.RunsIterator.next.Goals as goal

pub nonzero_rem-place : goal.nonzero_rem-place
nonzero_rem-place g c =
    let s = c.args.self.now.source in
    omega (arith, (limits_of g.met.K.GroupKind.lawful s).row_pos, s.row_groups_are)

pub nonzero_div-result : goal.nonzero_div-result
nonzero_div-result g c =
    let s = c.args.self.now.source in
    omega (arith, (limits_of g.met.K.GroupKind.lawful s).row_pos, s.row_groups_are)

pub overflow_sub-source : goal.overflow_sub-source
overflow_sub-source g c =
    let s = c.args.self.now.source in
    let pos : 0 < s.row_groups = omega (arith, (limits_of g.met.K.GroupKind.lawful s).row_pos, s.row_groups_are) in
    omega (arith, mod_below c.args.self.now.next s.row_groups pos)

pub overflow_add-self : goal.overflow_add-self
overflow_add-self g c = omega (arith, c.args.self.now.small 0 (omega arith))

pub invariant_of-self : goal.invariant_of-self
invariant_of-self g c = record { small = λ i h. omega (arith, c.args.self.now.small (c.min-groups.result + i) (omega arith)) }

pub invariant_of-result : goal.invariant_of-result
invariant_of-result g c =
    let s = c.args.self.now.source in
    let w = limits_of g.met.K.GroupKind.lawful s in
    let n = c.args.self.now.next in
    let pos : 0 < s.row_groups = omega (arith, w.row_pos, s.row_groups_are) in
    let below : n % s.row_groups < s.row_groups = mod_below n s.row_groups pos in
    record {
      short = record {
        row = omega (arith, div-le_self n s.row_groups, c.args.self.now.small 0 (omega arith));
        place = omega (arith, few_row_groups w, s.row_groups_are);
        few = omega arith;
      };
      inside = omega arith;
    }

some : (g : _) (c : goal.After-result-1 g) → 0 < c.min-groups.result
some g c =
    let s = c.args.self.now.source in
    let pos : 0 < s.row_groups = omega (arith, (limits_of g.met.K.GroupKind.lawful s).row_pos, s.row_groups_are) in
    omega (arith, mod_below c.args.self.now.next s.row_groups pos)

pub returns-clause-steps : goal.returns-clause-steps
returns-clause-steps g c = record {
  source = refl;
  first = div-add-mod' c.args.self.now.next c.args.self.now.source.row_groups;
  some = some g c;
  kept = refl;
  next = refl;
  left = omega arith;
}

pub returns-clause-goes : goal.returns-clause-goes
returns-clause-goes g c = record { on = λ _. (tt, tt, omega (arith, some g c)); keeps = tt; rests = λ _. tt }

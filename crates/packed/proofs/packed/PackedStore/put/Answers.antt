use Rattle.std.proofs.Common.{◌≡◌, true, is_some, Some, sym, refl, ap, ◌∙◌, rules}
use Rattle.theory.specs.Pictures.{inside}
use Rattle.packed.specs.Grids.{grid_picture}
use Rattle.packed.proofs.Runs.{put_done}
use Rattle.packed.proofs.packed.PackedStore.put.Goals as goal

pub returns : goal.returns
returns c =
    let s = c.args.self.now in
    let run = c.in_ok-run.run' in
    let some : c.run.result ≡ Some run = search rules in
    let within : inside (grid_picture s.grid s.octets.now) c.args.plane c.args.row c.args.column ≡ true = sym c.run.ensures.place ∙ ap is_some some in
    let small = sym c.overflows.ensures ∙ c.if-overflows.false in
    let left = put_done s.grid s.octets.now c.write.new.octets c.args.plane c.args.row c.args.column c.args.value run.first run.depth s.sound.owned
    within small (search rules) c.write.ensures in
    record {
      answer = search rules;
      picture = left.0;
      rest = ap (λ beside. (s.octets.ghost_name, s.grid, beside)) left.1;
      kept = tt;
      bits = left.2;
      memory = refl;
    }

use Rattle.std.proofs.Common.{not, ap, ◌∙◌}
use Rattle.refusals.specs.Numbers.{numbered}
use Rattle.theory.specs.Octets.{bit, count_below}
use Rattle.theory.specs.Taking.{count_refusal, missing}
use Rattle.receiver.specs.Opening.{part_open}
use Rattle.receiver.proofs.Checks.{handed_on}
use Rattle.receiver.proofs.Surveys.{uncounted, counted, counts_unnamed}
use Rattle.receiver.proofs.states.Open.missing.Goals as goal

pub returns-in_err-check_map : goal.returns-in_err-check_map
returns-in_err-check_map g c =
    let t = part_open g.K.GroupKind.kind c.args.self.now in
    let m = c.args.map.now in
    let answer = handed_on _ _ c.from_residual.result c.from_residual.ensures.1
    (uncounted (count_refusal t m) _ (missing t m) c.in_err-check_map.ensures.answer) in
    record { answer = answer; law = counts_unnamed t m (numbered c.from_residual.result) answer }

pub returns : goal.returns
returns g c =
    let t = part_open g.K.GroupKind.kind c.args.self.now in
    let m = c.args.map.now in
    let answer = counted (count_refusal t m) c.clear_bits.result (missing t m) c.in_ok-check_map.ensures.answer
    (c.clear_bits.ensures ∙ ap (λ n. count_below n (λ k. not (bit m k))) c.groups.ensures.value) in
    record { answer = answer; law = counts_unnamed t m _ answer }

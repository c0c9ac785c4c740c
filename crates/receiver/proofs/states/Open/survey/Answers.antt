use Rattle.std.proofs.Common.{◌*◌, ◌≤◌, not, length, sym, ap, ◌∙◌, subst}
use Rattle.refusals.specs.Numbers.{numbered}
use Rattle.theory.specs.Octets.{bit, count_below}
use Rattle.theory.specs.Taking.{survey_refusal, missing}
use Rattle.receiver.specs.Opening.{part_open}
use Rattle.receiver.proofs.Checks.{handed_on, passes}
use Rattle.receiver.proofs.Offers.{map_long}
use Rattle.receiver.proofs.Surveys.{uncounted, counted, law_holds, surveys_unnamed}
use Rattle.receiver.proofs.states.Open.survey.Goals as goal

pub returns-in_err-check : goal.returns-in_err-check
returns-in_err-check g c =
    let t = part_open g.K.GroupKind.kind c.args.self.now in
    let v = g.S.Store.picture c.args.store.now in
    let m = c.args.map.now in
    let answer = handed_on _ _ c.from_residual.result c.from_residual.ensures.1
    (uncounted (survey_refusal t v m) _ (missing t m) c.in_err-check.ensures.answer) in
    record { answer = answer; law = law_holds t v m; count = surveys_unnamed t v m (numbered c.from_residual.result) answer }

pub clear_bits-requires : goal.clear_bits-requires
clear_bits-requires g c =
    let t = part_open g.K.GroupKind.kind c.args.self.now in
    let v = g.S.Store.picture c.args.store.now in
    let m = c.args.map.now in
    subst (λ n. n ≤ 8 * length m) (sym c.groups.ensures.value) (map_long t v m (passes (survey_refusal t v m) c.in_ok-check.ensures.answer))

pub returns : goal.returns
returns g c =
    let t = part_open g.K.GroupKind.kind c.args.self.now in
    let v = g.S.Store.picture c.args.store.now in
    let m = c.args.map.now in
    let answer = counted (survey_refusal t v m) c.clear_bits.result (missing t m) c.in_ok-check.ensures.answer
    (c.clear_bits.ensures ∙ ap (λ n. count_below n (λ k. not (bit m k))) c.groups.ensures.value) in
    record { answer = answer; law = law_holds t v m; count = surveys_unnamed t v m _ answer }

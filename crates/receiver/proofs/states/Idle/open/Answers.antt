use Rattle.std.proofs.Common.{◌≡◌, ℕ, rules, Ok, Err, Result, IsErrAnd, ◌≤◌, false, ◌++◌, length, drop, replicate, sym, refl, ap, ◌∙◌, subst, arith}
use Rattle.std.proofs.lemmas.Bool.{both_ways}
use Rattle.receiver.specs.Opening.{outcome, part_with}
use Rattle.refusals.specs.declared.Refusal.{Refusal}
use Rattle.refusals.specs.Numbers.{number_of, numbered}
use Rattle.std.specs.Result.{IsErr, is_ok}
use Rattle.theory.specs.Formats.{Part}
use Rattle.theory.specs.Layouts.{Kind}
use Rattle.receiver.specs.declared.states.Idle.{Idle}
use Rattle.receiver.specs.declared.states.Open.{Open}
use Rattle.receiver.proofs.Checks.{open_refused, opens}
use Rattle.receiver.proofs.Surveys.{begins}
use Rattle.receiver.proofs.states.Idle.open.Goals as goal

-- a check that fails has a refusal, and what is answered then
refusal_of : (r : Result (Unit {0}) Refusal) → IsErr r → (e : Refusal) × (r ≡ Err e)
refusal_of (Ok x) b = cc
refusal_of (Err e) b = (e, refl)

handed_back : {K : Type 0} (kind : K → Kind) (r : Result (Open K) (Idle × Refusal)) (e : Refusal) (a : Result Part ℕ) → IsErrAnd r (λ y. y.1 ≡ e)
    → Err (number_of e) ≡ a → (outcome kind r ≡ a) × (is_ok r ≡ false)
handed_back kind (Ok x) e a b h = absurd b
handed_back kind (Err y) e a b h = (ap (λ z. Err (number_of z)) b ∙ h, refl)

pub returns-in_err-map_err : goal.returns-in_err-map_err
returns-in_err-map_err g c =
    let t = part_with g.K.GroupKind.kind c.args.format c.args.timestamp c.args.field in
    let failed : IsErr c.check_opening.result = search rules in
    let e = refusal_of c.check_opening.result failed in
    let is : c.check_opening.result ≡ Err e.0 = e.1 in
    let back : IsErrAnd c.from_residual.result (λ y. y.1 ≡ e.0) = search rules in
    let r = open_refused t c.args.map.now (number_of e.0) (ap numbered (sym is) ∙ c.check_opening.ensures.answer) in
    let h = handed_back g.K.GroupKind.kind c.from_residual.result e.0 _ back r.0 in
    record { answer = h.0; map = r.1; run = λ ok. absurd (both_ways (is_ok c.from_residual.result) h.1 ok) }

pub reset-requires : goal.reset-requires
reset-requires g c =
    let t = part_with g.K.GroupKind.kind c.args.format c.args.timestamp c.args.field in
    let m = c.args.map.now in
    let ok : c.check_opening.result ≡ Ok tt = search rules in
    subst (λ n. n ≤ length m) (sym c.map_octets.ensures) (opens t m (ap numbered (sym ok) ∙ c.check_opening.ensures.answer)).2

pub returns : goal.returns
returns g c =
    let t = part_with g.K.GroupKind.kind c.args.format c.args.timestamp c.args.field in
    let m = c.args.map.now in
    let ok : c.check_opening.result ≡ Ok tt = search rules in
    let none = ap numbered (sym ok) ∙ c.check_opening.ensures.answer in
    let opened = opens t m none in
    let map = c.reset.ensures ∙ ap (λ n. replicate n 0 ++ drop n m) c.map_octets.ensures ∙ opened.1 in
    record {
      answer = opened.0;
      map = map;
      run = λ _. begins t m c.reset.new.map (g.met.K.GroupKind.lawful c.args.format.kind) c.ranges.timestamp.fits (omega (arith, c.well_formed))
          c.check_opening.ensures.octets none map;
    }

use Rattle.std.proofs.Common.{◌≡◌, ℕ, Bool, true, false, ◌&&◌, eqb, refl, ◌∙◌, rules, tests}
use Rattle.std.proofs.lemmas.Iterator.{YieldsList-from_range}
use Rattle.std.proofs.lemmas.Iterator.Search.{all_from_yields_List}
use Rattle.theory.specs.Formats.{plane_width, plane_height}
use Rattle.formats.specs.Meaning.{part_of}
use Rattle.stores.proofs.fitting.planes_fit.Goals as goal

turned : (a b c : Bool) → (a && (b && (c && true))) ≡ (c && (b && (a && true)))
turned true true true = refl
turned true true false = refl
turned true false true = refl
turned true false false = refl
turned false true true = refl
turned false true false = refl
turned false false true = refl
turned false false false = refl

pub returns : goal.returns
returns g c =
    let v = g.S.Store.picture c.args.store.now in
    let t = part_of g.K.GroupKind.kind c.args.part.now in
    let test : ℕ → Bool = λ p. eqb (v.width p) (plane_width t p) && eqb (v.height p) (plane_height t p) in
    all_from_yields_List test _ _ c.all.result c.all.ensures.ran (YieldsList-from_range 0 3 3 refl refl) (λ x b q k. search (rules, tests))
    ∙ turned (test 0) (test 1) (test 2)

use Rattle.std.proofs.Common.{◌≡◌, ℕ, ◌<◌, ◌&&◌, eqb, length, get_or, take, sym, ap, ◌∙◌, ap₂, arith, rules, tests, get_or-take, length-take-le}
use Rattle.std.specs.List.{position_from}
use Rattle.std.specs.Option.{unwrap_or, option_map_or}
use Rattle.std.proofs.lemmas.Iterator.{YieldsList-from_slice}
use Rattle.std.proofs.lemmas.Iterator.Adapters.{position_from-zero}
use Rattle.std.proofs.lemmas.Iterator.Search.{position_from_yields_List}
use Rattle.std.proofs.lemmas.Option.{slice_get-get_or}
use Rattle.theory.specs.Octets.{first_from}
use Rattle.packed.specs.declared.grid.Place.{Place}
use Rattle.packed.specs.Grids.{holds}
use Rattle.packed.proofs.Scans.{position_scan}
use Rattle.packed.proofs.grid.Grid.position.Goals as goal

pub returns-clause-value : goal.returns-clause-value
returns-clause-value c =
    let g = c.args.self.now in
    let p = c.args.place in
    let xs = take g.positions g.places in
    let is = λ (x : Place). eqb x.plane p.plane && eqb x.row p.row && eqb x.column p.column in
    let long : length g.places ≡ 24 = search rules in
    let many : length xs ≡ g.positions = length-take-le g.positions g.places (omega (arith, long, g.few)) in
    let found : c.position.result ≡ position_from is 0 xs
    = position_from_yields_List is _ _ c.position.result c.position.ensures.ran (YieldsList-from_slice xs c.iter.ensures.rest) (λ x b q k. search (rules, tests))
    ∙ position_from-zero is xs in
    let same : (i : ℕ) (x : Place) → i < length xs → is (get_or xs i x) ≡ holds g p.plane p.row p.column i = λ i x h.
    ap is (get_or-take g.positions g.places i x (omega (arith, many)))
    ∙ sym (ap (λ o. eqb (option_map_or (λ y. y.plane) o 0) p.plane && eqb (option_map_or (λ y. y.row) o 0) p.row
    && eqb (option_map_or (λ y. y.column) o 0) p.column) (slice_get-get_or g.places i x (omega (arith, long, many, g.few)))) in
    c.unwrap_or.ensures
    ∙ ap₂ unwrap_or found (sym many)
    ∙ position_scan is (holds g p.plane p.row p.column) xs same
    ∙ ap (λ k. first_from 0 k (holds g p.plane p.row p.column)) many

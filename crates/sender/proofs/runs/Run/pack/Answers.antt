use Rattle.std.proofs.Common.{◌≡◌, ℕ, ◌+◌, ◌*◌, ◌≤◌, List, length, sym, ap, ◌∙◌, subst, one-mul, arith}
use Rattle.std.specs.List.{range_with_len}
use Rattle.std.proofs.lemmas.List.{append-nil, take_all, length-take, length-drop}
use Rattle.formats.specs.Meaning.{part_of}
use Rattle.theory.specs.Layouts.{LawfulLayout}
use Rattle.theory.specs.Formats.{layout_of}
use Rattle.theory.specs.Groups.{group_octets}
use Rattle.theory.specs.Cutting.{concat_map}
use Rattle.theory.proofs.Contents.{length_group_octets}
use Rattle.sender.proofs.Pieces.{groups_end, pieces_more, group_packed}
use Rattle.sender.proofs.Sizes.{limits_of}
use Rattle.sender.proofs.runs.Run.pack.Goals as goal

pub pack_group-requires-clause-laws : goal.pack_group-requires-clause-laws
pack_group-requires-clause-laws g c =
    let s = c.args.self.now.source in
    let w = limits_of g.met.K.GroupKind.lawful s in
    subst (LawfulLayout (g.K.GroupKind.kind s.part.now.format.kind)) (sym c.requires.depth) w.layout

pub loop-i-preserved : goal.loop-i-preserved
loop-i-preserved g c =
    let r = c.args.self.now in
    let s = r.source in
    let t = part_of g.K.GroupKind.kind s.part.now in
    let v = g.S.Store.picture s.store.now in
    let w = limits_of g.met.K.GroupKind.lawful s in
    let d = g.D.Depth.depth c.args.depth.now in
    let i = c.loop-i.i in
    let o = c.octets-octets.result in
    let ys = c.pack_group.new.out in
    let f : ℕ → List ℕ = group_octets t v in
    let first : ℕ = r.unit_row * s.row_groups + r.place in
    let same : o ≡ (layout_of t.format).octets = cc in
    let room : length c.loop-i.out ≡ r.groups * (layout_of t.format).octets =
    c.loop-i.auto.out ∙ c.requires.room ∙ ap (λ x. r.groups * x) s.octets_are in
    let end : i * o + o ≤ length c.loop-i.out = omega (arith, groups_end i 1 r.groups o (omega arith) same room, one-mul o) in
    let whole : ys ≡ f (first + i) =
    group_packed t v w (g.S.Store.lawful s.store.now) s.fits r.unit_row r.place r.groups s.row_groups d i c.args.words.now _ ys
    s.row_groups_are c.requires.depth r.inside c.requires.shown c.loop-i-test.true
    (simp (length-take, length-drop) (omega (arith, end, same))) c.pack_group.ensures in
    pieces_more f first i 1 o _ c.loop-i.out ys (λ x. length_group_octets t v x ∙ sym same) (omega (arith, end))
    (whole ∙ sym (append-nil (f (first + i)))) c.loop-i.invariant

pub returns : goal.returns
returns g c =
    let r = c.args.self.now in
    let s = r.source in
    let t = part_of g.K.GroupKind.kind s.part.now in
    let o = c.octets-octets.result in
    let i = c.loop-i.i in
    let whole : i ≡ r.groups = omega arith in
    let same : s.octets ≡ o = s.octets_are ∙ ap (λ d. ((part_of g.K.GroupKind.kind s.part.now).format.kind.layout d).octets) (sym c.requires.depth)
    ∙ cc in
    let all : length c.loop-i.out ≡ i * o = c.loop-i.auto.out ∙ c.requires.room ∙ ap (λ n. r.groups * n) same ∙ ap (λ n. n * o) (sym whole) in
    sym (take_all (i * o) c.loop-i.out (omega (arith, all)))
    ∙ c.loop-i.invariant
    ∙ ap (λ n. concat_map (group_octets t (g.S.Store.picture s.store.now)) (range_with_len (r.unit_row * s.row_groups + r.place) n)) whole

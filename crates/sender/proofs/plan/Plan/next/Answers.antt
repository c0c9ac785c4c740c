use Rattle.std.proofs.Common.{◌≡◌, ℕ, ◌+◌, ltb, leb, cond, Some, None, refl, ap, ◌∙◌, ⊎_elim, inl, inr, arith}
use Rattle.std.specs.Bool.{then_some}
use Rattle.std.proofs.lemmas.Bool.{cases_lt, lt-ltb, le-ltb, lt-leb, le-leb}
use Rattle.formats.specs.Meaning.{part_of}
use Rattle.theory.specs.Formats.{groups}
use Rattle.sender.proofs.Cuts.{near_or_none}
use Rattle.sender.proofs.Sizes.{limits_of}
use Rattle.sender.proofs.plan.Plan.next.Goals as goal

pub overflow_add-next : goal.overflow_add-next
overflow_add-next g c =
    let s = c.args.self.now.source in
    let w = limits_of g.met.K.GroupKind.lawful s in
    elim (near_or_none w c.args.self.now.first) [
      | inl e ↦ omega (arith, c.args.self.now.groups_are)
      | inr h ↦ omega (arith, c.args.self.now.groups_are)
    ]

some_or_none : (a b : ℕ) → then_some (ltb a b) a ≡ cond (leb b a) None (Some a)
some_or_none a b = ⊎_elim (λ h. rw (lt-ltb a b h, lt-leb b a h) refl) (λ h. rw (le-ltb a b h, le-leb b a h) refl) (cases_lt a b)

pub returns : goal.returns
returns g c =
    let p = c.args.self.now in
    let t = part_of g.K.GroupKind.kind p.source.part.now in
    c.then_some.ensures ∙ some_or_none (p.first + p.groups) p.source.groups
    ∙ ap (λ n. cond (leb n (p.first + p.groups)) None (Some (p.first + p.groups))) p.source.groups_are
    ∙ ap (λ n. cond (leb (groups t) (p.first + n)) None (Some (p.first + n))) p.groups_are

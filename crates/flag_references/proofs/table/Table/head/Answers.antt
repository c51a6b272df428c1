use Rattle.std.proofs.Common.{◌≡◌, ◌<◌, ℕ, length, get_or, Some, sym, ◌∙◌, ap, subst, arith}
use Rattle.std.specs.List.{HoldsAt}
use Rattle.flag_text.specs.View.{view, members_view}
use Rattle.flag_references.specs.Inlining.{reference_in}
use Rattle.flag_references.specs.Measure.{known, measured}
use Rattle.flag_references.specs.Table.{IsHead, Learned}
use Rattle.flag_references.specs.declared.measure.Measure.{Measure}
use Rattle.flag_references.proofs.Heads.{any_default, head_here, head_there, nowhere}
use Rattle.flag_references.proofs.table.Table.head.Goals as goal

-- the measure of the evaluator at an index is this
abbrev HasMeasure : Learned → ℕ → Measure → Type 0
HasMeasure t i x = HoldsAt (λ m. measured (known (members_view t.members) t.measures) (view m.1) ≡ Some x) t.members i

pub returns-in_default : goal.returns-in_default
returns-in_default c =
    let m = c.index-members-i.result in
    subst (λ (t : Learned). IsHead t.members c.args.i c.args.i) c.self.view_is
    (head_here c.self.inside.members.now c.args.i m (subst (λ (t : Learned). c.args.i < length t.members) (sym c.self.view_is) c.requires.within) (sym c.index-members-i.is)
    (ap (λ y. reference_in (view y.1)) c.index-members-i.is ∙ sym c.in_default.ensures))

pub returns-in-Some-position_of : goal.returns-in-Some-position_of
returns-in-Some-position_of c =
    let ms = c.self.inside.members.now in
    let es = c.self.inside.measures.items in
    let heads = c.self.inside.heads.items in
    let is = c.self.invariant in
    let m = c.index-members-i.result in
    let j = c.in-Some-position_of.next in
    let at = c.in-Some-position_of.ensures in
    let found : measured (known (members_view ms) es) (view m.1) ≡ Some c.args.measure =
    ap (λ y. measured (known (members_view ms) es) (view y.1)) c.index-members-i.is ∙ subst (λ t. HasMeasure t c.args.i c.args.measure) (sym c.self.view_is) c.requires.found m in
    let head : c.index.result.now ≡ get_or heads j 0 = c.index.ensures ∙ any_default heads j c.index.result.now 0 (omega (arith, is.ends.each, at.within)) in
    subst (λ t. IsHead t.members c.args.i c.index.result.now) c.self.view_is
    (subst (IsHead ms c.args.i) (sym head)
    (head_there ms es heads c.args.i j m c.in-Some.name.now c.args.measure is.rising is.each is.ends (subst (λ t. c.args.i < length t.members) (sym c.self.view_is) c.requires.within) at.within
    (sym c.index-members-i.is) (ap (λ y. reference_in (view y.1)) c.index-members-i.is ∙ sym c.in-Some.ensures) found (at.named m) (at.found m)))

pub returns-in-None : goal.returns-in-None
returns-in-None c =
    let ms = c.self.inside.members.now in
    let es = c.self.inside.measures.items in
    let m = c.index-members-i.result in
    let found : measured (known (members_view ms) es) (view m.1) ≡ Some c.args.measure =
    ap (λ y. measured (known (members_view ms) es) (view y.1)) c.index-members-i.is ∙ subst (λ t. HasMeasure t c.args.i c.args.measure) (sym c.self.view_is) c.requires.found m in
    absurd (nowhere ms es (view m.1) c.in-Some.name.now c.args.measure (ap (λ y. reference_in (view y.1)) c.index-members-i.is ∙ sym c.in-Some.ensures) found c.in-None.ensures.found)

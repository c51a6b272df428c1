use Rattle.std.proofs.Common.{◌≡◌, get_or, sym, ap, ◌∙◌, subst, None, arith}
use Rattle.flag_text.specs.View.{members_view}
use Rattle.flag_references.specs.Measure.{known}
use Rattle.flag_references.proofs.Heads.{any_default}
use Rattle.flag_references.proofs.Known.{known_at, known-absent}
use Rattle.flag_references.proofs.Objects.{some_member}
use Rattle.flag_references.proofs.inlined_measure.known.Goals as goal

pub returns-in-Some : goal.returns-in-Some
returns-in-Some c =
    let ms = c.table.inside.members.now in
    let es = c.table.inside.measures.items in
    let i = c.in-Some.i in
    let at = c.in-Some.ensures in
    let d = some_member ms i at.within in
    let is : c.index.result.now ≡ get_or es i None = c.index.ensures ∙ any_default es i c.index.result.now None (omega (arith, c.table.invariant.each, at.within)) in
    subst (λ t. c.index.result.now ≡ known (members_view t.members) t.measures c.args.name.now) c.table.view_is
    (is ∙ (sym (known_at ms es c.table.invariant.rising c.table.invariant.each i d None at.within) ∙ ap (known (members_view ms) es) (at.named d)))

pub returns-in-None : goal.returns-in-None
returns-in-None c =
    subst (λ t. None ≡ known (members_view t.members) t.measures c.args.name.now) c.table.view_is
    (sym (known-absent c.table.inside.members.now c.table.inside.measures.items c.args.name.now c.in-None.ensures.found))

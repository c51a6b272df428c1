use Rattle.std.proofs.Common.{◌≡◌, ◌<◌, get_or, length, sym, ◌∙◌, ap, subst, arith, true}
use Rattle.std.specs.Prelude.{List, is_some}
use Rattle.flag_text.specs.Shape.{Shape}
use Rattle.flag_text.specs.View.{view, members_view}
use Rattle.flag_text.proofs.Views.{Named}
use Rattle.flag_references.specs.Inlining.{IsInlined}
use Rattle.flag_references.specs.Measure.{known, measured}
use Rattle.flag_references.specs.Table.{IsEndOf, IsWhole, Learned}
use Rattle.flag_references.proofs.Expansions.{form-measured}
use Rattle.flag_references.proofs.Heads.{any_default, end_there, end_within, no_end}
use Rattle.flag_references.proofs.Objects.{some_member}
use Rattle.flag_references.proofs.table.Evaluators.referred_by.Goals as goal

abbrev IsMeasured : Learned → Shape → Type 0
IsMeasured t tree = is_some (measured (known (members_view t.members) t.measures) tree) ≡ true

-- what has a form is measured over the fields of a table
is_measured : {inside t : Learned} {es : List Named} (tree u : Shape) → inside ≡ t → t.members ≡ es → IsWhole t → IsInlined (members_view es) tree u → IsMeasured inside tree
is_measured {inside} {t} tree u same is whole p =
    subst (λ (x : Learned). IsMeasured x tree) (sym same)
    (ap is_some (form-measured (members_view t.members) t.measures whole.knows_all tree u (subst (λ xs. IsInlined (members_view xs) tree u) (sym is) p)))

pub tree_at-requires : goal.tree_at-requires
tree_at-requires c =
    let table = c.table.inside in
    let ms = table.members.now in
    let heads = table.heads.items in
    let facts = c.table.invariant in
    let tree = view c.args.tree.now in
    let j = c.in-Some-position_of.i in
    let at = c.in-Some-position_of.ensures in
    let m = some_member ms j at.within in
    let is : c.index.result.now ≡ get_or heads j 0 = c.index.ensures ∙ any_default heads j c.index.result.now 0 (omega (arith, facts.ends.each, at.within)) in
    subst (λ n. n < length ms) (sym is)
    (end_within ms table.measures.items heads tree c.in-Some.name.now j m facts.rising facts.each facts.ends at.within (sym c.in-Some.ensures)
    (is_measured tree c.requires.found.0 c.table.view_is c.self.view_is c.self.invariant c.requires.found.1) (at.named m))

pub returns-in-Some-position_of : goal.returns-in-Some-position_of
returns-in-Some-position_of c =
    let table = c.table.inside in
    let ms = table.members.now in
    let heads = table.heads.items in
    let facts = c.table.invariant in
    let tree = view c.args.tree.now in
    let j = c.in-Some-position_of.i in
    let at = c.in-Some-position_of.ensures in
    let m = some_member ms j at.within in
    let is : c.index.result.now ≡ get_or heads j 0 = c.index.ensures ∙ any_default heads j c.index.result.now 0 (omega (arith, facts.ends.each, at.within)) in
    subst (λ es. IsEndOf (members_view es) tree (view c.tree_at.result.now)) (ap (λ (t : Learned). t.members) c.table.view_is ∙ c.self.view_is)
    (subst (IsEndOf (members_view ms) tree) (sym (c.tree_at.ensures m ∙ ap (λ n. view (get_or ms n m).1) is))
    (end_there ms table.measures.items heads tree c.in-Some.name.now j m facts.rising facts.each facts.ends at.within (sym c.in-Some.ensures)
    (is_measured tree c.requires.found.0 c.table.view_is c.self.view_is c.self.invariant c.requires.found.1) (at.named m) (at.found m)))

pub returns-in-None : goal.returns-in-None
returns-in-None c =
    let table = c.table.inside in
    let tree = view c.args.tree.now in
    absurd (no_end table.members.now table.measures.items tree c.in-Some.name.now (sym c.in-Some.ensures)
    (is_measured tree c.requires.found.0 c.table.view_is c.self.view_is c.self.invariant c.requires.found.1) c.in-None.ensures.found)

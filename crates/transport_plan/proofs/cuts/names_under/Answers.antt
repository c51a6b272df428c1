-- The marked names are under their low limits.
use Rattle.std.proofs.Common.{◌≡◌, ℕ, List, false, get_or, sym, ap, ◌∙◌, subst}
use Rattle.std.proofs.lemmas.Result.{IfOk-weaker}
use Rattle.std.specs.Cmp.Lexicographic.{slice_cmp}
use Rattle.std.specs.List.Sorted.{IsStrictlySortedBy}
use Rattle.std.specs.Map.{keys_of}
use Rattle.std.specs.Ordering.{nat_cmp}
use Rattle.bucket_core.specs.Rule.{Entries, names_view}
use Rattle.price_core.specs.Limits.{AreLimits, limits_view}
use Rattle.transport_core.specs.Deficient.{IsUnder}
use Rattle.transport_core.specs.Groups.{AreSizes}
use Rattle.transport_plan.specs.Chosen.{chosen}
use Rattle.transport_plan.proofs.Below.{never_over, under_set}
use Rattle.transport_plan.proofs.Choosing.{chosen_rise}
use Rattle.transport_plan.proofs.cuts.names_under.Goals as goal

pub returns-in_err-unsettled-clause-never : goal.returns-in_err-unsettled-clause-never
returns-in_err-unsettled-clause-never c =
    let lawful : AreLimits c.args.instance.now.limits = subst AreLimits c.totals.ensures.value c.entries-limits.ensures.lawful in
    λ old inputs names sizes over. never_over c.args.instance.now c.args.problem.now lawful c.requires.flow.lawful c.requires.flow.numbered c.args.flow.now c.args.search.now c.requires.stuck old inputs names sizes over

pub returns-clause-never : goal.returns-clause-never
returns-clause-never c =
    let lawful : AreLimits c.args.instance.now.limits = subst AreLimits c.totals.ensures.value c.entries-limits.ensures.lawful in
    λ old inputs names sizes over. never_over c.args.instance.now c.args.problem.now lawful c.requires.flow.lawful c.requires.flow.numbered c.args.flow.now c.args.search.now c.requires.stuck old inputs names sizes over

pub returns-clause-under : goal.returns-clause-under
returns-clause-under c =
    let p = c.args.instance.now in
    let marks = c.mark_unsettled.new.marks in
    let same : limits_view c.entries-limits.result.now ≡ p.limits = c.entries-limits.ensures.value ∙ c.totals.ensures.value in
    let lawful : AreLimits p.limits = subst AreLimits c.totals.ensures.value c.entries-limits.ensures.lawful in
    IfOk-weaker c.marked.result (λ v. names_view v.items ≡ chosen (keys_of (limits_view c.entries-limits.result.now)) (λ i. get_or marks i false)) (λ v. (old : Entries) (inputs : List (List ℕ)) → AreSizes old inputs p.groups → IsUnder old p.limits p.pricing (names_view v.items))
    (λ v is old inputs sizes.
    subst (λ ns. IsUnder old p.limits p.pricing ns) (sym (is ∙ ap (λ ls. chosen (keys_of ls) (λ i. get_or marks i false)) same))
    (under_set p c.args.problem.now lawful c.requires.flow.lawful c.requires.flow.numbered c.args.flow.now c.args.search.now c.requires.stuck marks c.mark_unsettled.ensures old inputs sizes))
    c.marked.ensures

pub returns-clause-ordered : goal.returns-clause-ordered
returns-clause-ordered c =
    let marks = c.mark_unsettled.new.marks in
    let lawful : AreLimits (limits_view c.entries-limits.result.now) = subst AreLimits (sym c.entries-limits.ensures.value) c.entries-limits.ensures.lawful in
    IfOk-weaker c.marked.result (λ v. names_view v.items ≡ chosen (keys_of (limits_view c.entries-limits.result.now)) (λ i. get_or marks i false)) (λ v. IsStrictlySortedBy (slice_cmp nat_cmp) (names_view v.items))
    (λ v is. subst (IsStrictlySortedBy (slice_cmp nat_cmp)) (sym is) (chosen_rise (keys_of (limits_view c.entries-limits.result.now)) (λ i. get_or marks i false) lawful.rise))
    c.marked.ensures

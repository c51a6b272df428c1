use Rattle.std.proofs.Common.{◌≡◌, map, string_bytes, sym, ap, ◌∙◌, subst}
use Rattle.std.specs.Cmp.Lexicographic.{slice_cmp}
use Rattle.std.specs.List.Sorted.{IsStrictlySortedBy}
use Rattle.std.specs.Map.{keys_of}
use Rattle.std.specs.Ordering.{nat_cmp}
use Rattle.price_core.specs.Limits.{AreLimits, limits_view}
use Rattle.price_core.specs.Request.{limits_on}
use Rattle.price_core.proofs.Limited.{limits_lawful}
use Rattle.price_core.proofs.request.Request.totals.Goals as goal

pub invariant_of-result : goal.invariant_of-result
invariant_of-result c =
    let names = map string_bytes c.args.names.now in
    let asked = limits_view c.self.inside.totals.items in
    let is : limits_view c.in_ok-limits.limits.items ≡ limits_on asked names = c.in_ok-limits.ensures.exact ∙ ap (λ ls. limits_on (limits_view ls) names) c.as_slice-2.ensures.value in
    subst AreLimits (sym is) (limits_lawful asked names c.self.invariant.limits (subst (λ ls. IsStrictlySortedBy (slice_cmp nat_cmp) (keys_of ls)) is c.in_ok-limits.ensures.rise))

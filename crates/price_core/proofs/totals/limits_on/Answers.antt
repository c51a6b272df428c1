use Rattle.std.proofs.Common.{◌≡◌, ◌-◌, [], ◌++◌, unwrap_or, append-nil, sym, ap, ◌∙◌, subst, arith}
use Rattle.std.specs.Cmp.Lexicographic.{slice_cmp}
use Rattle.std.specs.List.Sorted.{IsStrictlySortedBy}
use Rattle.std.specs.Map.{keys_of}
use Rattle.std.specs.Ordering.{nat_cmp}
use Rattle.price_core.specs.Limits.{limits_view}
use Rattle.price_core.proofs.Limited.{named_limits, limits_more, named_rise}
use Rattle.price_core.proofs.totals.limits_on.Goals as goal

pub loop-left-preserved : goal.loop-left-preserved
loop-left-preserved c =
    let l = c.loop-left in
    let names = c.args.names.now in
    let i = l.left - 1 in
    record {
      inside = omega (arith, l.invariant.inside);
      made = limits_more (limits_view c.args.asked.now) names l.left i c.index-names-left.result l.by_name.entries c.insert.new.self.entries c.as_str-name.result c.unwrap_or.result
          (omega arith) (omega (arith, l.invariant.inside)) c.index-names-left.is c.as_str-name.ensures.value (c.unwrap_or.ensures ∙ ap (λ o. unwrap_or o (0, 0)) c.find_limit.ensures) c.in_ok-insert.ensures.entries l.invariant.made;
    }

pub returns-clause-rise : goal.returns-clause-rise
returns-clause-rise c =
    let l = c.loop-name in
    let all = c.into_iter-name-iterator.ensures.into_iter_gives in
    let left : named_limits l.name-iterator ≡ [] = ap named_limits c.in-None.ensures.steps.0 in
    let whole : limits_view l.limits.items ≡ named_limits c.loop-left.by_name.entries =
    sym (append-nil (limits_view l.limits.items)) ∙ (ap (λ es. limits_view l.limits.items ++ es) (sym left) ∙ (l.invariant.2 ∙ ap named_limits all.0)) in
    subst (λ ls. IsStrictlySortedBy (slice_cmp nat_cmp) (keys_of ls)) (sym whole) (named_rise c.loop-left.by_name.entries all.5)

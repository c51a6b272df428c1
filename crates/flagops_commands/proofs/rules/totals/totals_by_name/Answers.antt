use Rattle.std.proofs.Common.{◌≡◌, ℕ, ◌+◌, ◌-◌, [], ◌++◌, length, drop, Option, unwrap_or, append-nil, refl, sym, ap, ◌∙◌, subst, arith}
use Rattle.std.proofs.lemmas.List.{drop_all}
use Rattle.flagops_commands.proofs.AddedUp.{AreTotals, named_totals, total_in, totals_none, total_in-le, lookup-borrowed, sum_small, map_more, map_all}
use Rattle.flagops_commands.proofs.rules.totals.totals_by_name.Goals as goal

pub loop-left-init : goal.loop-left-init
loop-left-init c =
    let r = c.args.rule.now in
    let size : c.len-left.result ≡ length r = c.len-left.ensures ∙ ap length c.entries.ensures.value in
    let empty : named_totals c.new-by_name.result.entries ≡ [] = ap named_totals c.new-by_name.ensures.empty in
    let none : drop c.len-left.result r ≡ [] = drop_all c.len-left.result r (omega (arith, size)) in
    record { inside = omega (arith, size); added = rw (empty, none) totals_none }

pub overflow_add-before : goal.overflow_add-before
overflow_add-before c =
    let l = c.loop-left in
    let r = c.args.rule.now in
    let name = c.entry-weight.result.0 in
    let before : c.unwrap_or-before.result ≡ total_in (named_totals l.by_name.entries) name.now =
    c.unwrap_or-before.ensures ∙ ap (λ (o : Option ℕ). unwrap_or o 0) (c.copied.ensures ∙ (c.get.ensures.value ∙ lookup-borrowed name.now l.by_name.entries)) in
    let small = total_in-le (named_totals l.by_name.entries) (drop l.left r) name.now l.invariant.added in
    omega (arith, sum_small r l.left (l.left - 1) _ c.unwrap_or-before.result (omega arith) c.entry-weight.ensures.value (omega (arith, before, small)), c.requires)

pub loop-left-preserved : goal.loop-left-preserved
loop-left-preserved c =
    let l = c.loop-left in
    let r = c.args.rule.now in
    let name = c.entry-weight.result.0 in
    let weight = c.entry-weight.result.1 in
    let before : c.unwrap_or-before.result ≡ total_in (named_totals l.by_name.entries) name.now =
    c.unwrap_or-before.ensures ∙ ap (λ (o : Option ℕ). unwrap_or o 0) (c.copied.ensures ∙ (c.get.ensures.value ∙ lookup-borrowed name.now l.by_name.entries)) in
    record {
      inside = omega (arith, l.invariant.inside);
      added = map_more r l.left (l.left - 1) (name.now, weight) l.by_name.entries c.insert.new.self.entries name (c.unwrap_or-before.result + weight)
          (omega arith) c.entry-weight.ensures.value refl (ap (λ n. n + weight) before) c.in_ok-insert.ensures.entries l.invariant.added;
    }

pub returns : goal.returns
returns c =
    let l = c.loop-total in
    let r = c.args.rule.now in
    let all = c.into_iter-total-iterator.ensures.into_iter_gives in
    let left : l.total-iterator ≡ [] = c.in-None.ensures.steps.0 in
    let whole : l.totals.items ≡ c.loop-left.by_name.entries = sym (append-nil l.totals.items) ∙ (ap (λ es. l.totals.items ++ es) (sym left) ∙ (l.invariant.2 ∙ all.0)) in
    let at_front : c.loop-left.left ≡ 0 = omega arith in
    let added : AreTotals (named_totals c.loop-left.by_name.entries) r = subst (λ n. AreTotals (named_totals c.loop-left.by_name.entries) (drop n r)) at_front c.loop-left.invariant.added in
    ap named_totals whole ∙ map_all c.loop-left.by_name.entries r added all.5

use Rattle.std.proofs.Common.{◌≡◌, [], ◌++◌, append-nil, false, Option, Some, None, is_some, refl, sym, ap, ◌∙◌, subst}
use Rattle.std.specs.List.Sorted.{IsStrictlySortedBy}
use Rattle.std.specs.Map.{keys_of}
use Rattle.price_core.specs.Request.{if_written}
use Rattle.price_core.proofs.Order.{change_cmp, sorting_more, sorting_twice, rise_view}
use Rattle.price_core.proofs.change.once_each.Goals as goal

nothing : {X : Type 0} (o : Option X) → is_some o ≡ false → o ≡ None
nothing None h = refl
nothing (Some x) h = cc

pub returns-then-is_some-clause-exact : goal.returns-then-is_some-clause-exact
returns-then-is_some-clause-exact g c = λ _.
    ap if_written (sorting_twice c.args.entries.items c.loop-change.entries.items c.pop.new.self.items c.loop-change.by_change.entries c.in-Some.change c.in-Some.said c.loop-change.invariant c.in-Some.ensures.items
    (ap is_some (sym c.in_ok-insert.ensures.old) ∙ (sym c.is_some.ensures ∙ c.if-is_some.true)))

pub loop-change-preserved : goal.loop-change-preserved
loop-change-preserved g c =
    sorting_more c.args.entries.items c.loop-change.entries.items c.pop.new.self.items c.loop-change.by_change.entries c.insert.new.self.entries c.in-Some.change c.in-Some.said c.loop-change.invariant c.in-Some.ensures.items c.in_ok-insert.ensures.entries
    (sym c.in_ok-insert.ensures.old ∙ nothing c.in_ok-insert.field-0 (sym c.is_some.ensures ∙ c.if-is_some.false))

pub returns-clause-rise : goal.returns-clause-rise
returns-clause-rise g c =
    let l = c.loop-entry in
    let all = c.into_iter-entry-iterator.ensures.into_iter_gives in
    let left : l.entry-iterator ≡ [] = c.in-None.ensures.steps.0 in
    let whole : l.ordered.items ≡ c.loop-change.by_change.entries = sym (append-nil l.ordered.items) ∙ (ap (λ es. l.ordered.items ++ es) (sym left) ∙ (l.invariant.2 ∙ all.0)) in
    rise_view l.ordered.items (subst (λ es. IsStrictlySortedBy change_cmp (keys_of es)) (sym whole) all.5)

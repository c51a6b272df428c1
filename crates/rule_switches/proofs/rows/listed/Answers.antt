use Rattle.std.proofs.Common.{◌≡◌, ◌++◌, ℕ, List, map, append-nil, sym, ap, ◌∙◌, subst}
use Rattle.std.specs.List.Sorted.{IsStrictlySortedBy}
use Rattle.std.specs.Map.{keys_of}
use Rattle.price_core.specs.Pricing.{lent_entry, lent_pair, pair_cmp}
use Rattle.price_core.proofs.Inserts.{rise_seen}
use Rattle.rule_switches.specs.Switches.{Rows, rows_view}
use Rattle.rule_switches.proofs.Listed.{Lent}
use Rattle.rule_switches.proofs.rows.listed.Goals as goal

pub returns-clause-rise : goal.returns-clause-rise
returns-clause-rise c =
    let l = c.loop-from in
    let given = c.into_iter-from-iterator.ensures.into_iter_gives in
    let entries : List (Lent × ℕ) = c.args.rows.entries in
    let whole : rows_view l.list.items ≡ map lent_entry entries =
    sym (append-nil (rows_view l.list.items)) ∙ (ap (λ (es : List (Lent × ℕ)). rows_view l.list.items ++ map lent_entry es) (sym c.in-None.ensures.steps.0) ∙ (l.invariant.2 ∙ ap (λ (es : List (Lent × ℕ)). map lent_entry es) given.0)) in
    subst (λ (rows : Rows). IsStrictlySortedBy pair_cmp (keys_of rows)) (sym whole) (rise_seen lent_pair pair_cmp entries given.5)

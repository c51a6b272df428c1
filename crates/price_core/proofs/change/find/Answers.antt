use Rattle.std.proofs.Common.{Some, sym, ap, ◌∙◌, rules}
use Rattle.std.proofs.lemmas.Fn.{always_returns_same}
use Rattle.flag_text.proofs.Entries.{hit, miss}
use Rattle.price_core.specs.Pricing.{Pair, pair_cmp, change_view, entry_view, entries_view}
use Rattle.price_core.specs.declared.change.Change.{Change}
use Rattle.price_core.proofs.Changes.{pair_cmp_total, pair_exact, lookup-cmp}
use Rattle.price_core.proofs.change.find.Goals as goal

pub returns-in-Ok : goal.returns-in-Ok
returns-in-Ok g c =
    let p : Pair = (c.args.from.now, c.args.to.now) in
    let xs = c.args.entries.now in
    let by_change = c.in-Ok.ensures.position (λ e. pair_cmp (change_view e.0) p) (always_returns_same _ _ _ (λ a r h called. search rules)) in
    ap (λ (e : Change × g.row.X.Denot). Some e.1) (sym c.index-entries-place.is) ∙ sym (sym (lookup-cmp p (entries_view xs)) ∙ hit pair_cmp pair_cmp_total pair_exact entry_view xs p c.in-Ok.place c.index-entries-place.result c.requires c.in-Ok.ensures.bound c.index-entries-place.is by_change)

pub returns-in-Err : goal.returns-in-Err
returns-in-Err g c =
    let p : Pair = (c.args.from.now, c.args.to.now) in
    let xs = c.args.entries.now in
    let by_change = c.in-Err.ensures.position (λ e. pair_cmp (change_view e.0) p) (always_returns_same _ _ _ (λ a r h called. search rules)) in
    sym (sym (lookup-cmp p (entries_view xs)) ∙ miss pair_cmp pair_cmp_total pair_exact entry_view xs p c.in-Err.field-0 c.requires c.in-Err.ensures.bound by_change)

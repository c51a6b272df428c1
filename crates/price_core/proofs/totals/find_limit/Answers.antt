use Rattle.std.proofs.Common.{string_bytes, sym, ◌∙◌, rules}
use Rattle.std.specs.Cmp.Lexicographic.{slice_cmp}
use Rattle.std.specs.Ordering.{nat_cmp}
use Rattle.std.proofs.lemmas.Cmp.{nat_list_cmp_total}
use Rattle.std.proofs.lemmas.Fn.{always_returns_same}
use Rattle.std.proofs.lemmas.Map.Lookups.{exact_bytes}
use Rattle.flag_text.proofs.Entries.{lookup_name-cmp, hit, miss}
use Rattle.price_core.specs.Limits.{limit_view, limits_view}
use Rattle.price_core.proofs.totals.find_limit.Goals as goal

pub returns-in-Ok : goal.returns-in-Ok
returns-in-Ok c =
    let name = c.args.name.now in
    let xs = c.args.limits.now in
    let by_name = c.in-Ok.ensures.position (λ l. slice_cmp nat_cmp (string_bytes l.name) name) (always_returns_same _ _ _ (λ a r h called. search rules)) in
    sym (sym (lookup_name-cmp name (limits_view xs)) ∙ hit (slice_cmp nat_cmp) nat_list_cmp_total exact_bytes limit_view xs name c.in-Ok.place c.index-limits-place.result c.requires c.in-Ok.ensures.bound c.index-limits-place.is by_name)

pub returns-in-Err : goal.returns-in-Err
returns-in-Err c =
    let name = c.args.name.now in
    let xs = c.args.limits.now in
    let by_name = c.in-Err.ensures.position (λ l. slice_cmp nat_cmp (string_bytes l.name) name) (always_returns_same _ _ _ (λ a r h called. search rules)) in
    sym (sym (lookup_name-cmp name (limits_view xs)) ∙ miss (slice_cmp nat_cmp) nat_list_cmp_total exact_bytes limit_view xs name c.in-Err.field-0 c.requires c.in-Err.ensures.bound by_name)

use Rattle.std.proofs.Common.{◌≡◌, Some, string_bytes, sym, ap, ◌∙◌}
use Rattle.std.proofs.lemmas.Slice.Eq.{bytes_eq-Decides}
use Rattle.std.specs.List.{slice_get}
use Rattle.std.specs.Map.{keys_of}
use Rattle.price_core.specs.Limits.{limits_view}
use Rattle.price_core.specs.declared.totals.Limit.{Limit}
use Rattle.transport_plan.proofs.ListedGroups.{named}
use Rattle.transport_plan.proofs.network.place_from.Goals as goal

pub returns-then-eq : goal.returns-then-eq
returns-then-eq c =
    let limit = c.index-limits-before.result in
    let here : slice_get (keys_of (limits_view c.args.limits.now)) c.args.before ≡ Some (string_bytes limit.name) = named c.args.limits.now c.args.before limit c.if-before-limits.true c.index-limits-before.is in
    let same : string_bytes limit.name ≡ c.args.name.now = ap (λ (l : Limit). string_bytes l.name) c.index-limits-before.is ∙ (sym c.as_str.ensures.value ∙ (bytes_eq-Decides c.as_str.result.now c.args.name.now).0 (sym c.eq.ensures ∙ c.if-eq.true)) in
    here ∙ ap Some same

-- The name stands ahead until it is met.
use Rattle.std.proofs.Common.{◌≡◌, [], get_or, Some, string_bytes, sym, ap, ◌∙◌, arith}
use Rattle.std.proofs.lemmas.Bool.{false≢true}
use Rattle.std.proofs.lemmas.Option.{get_or_from_slice_get}
use Rattle.std.proofs.lemmas.Slice.Eq.{bytes_eq-Decides}
use Rattle.std.specs.Map.{keys_of}
use Rattle.price_core.specs.Limits.{limits_view}
use Rattle.transport_plan.proofs.ListedGroups.{named}
use Rattle.transport_plan.proofs.network.index_of.Goals as goal

pub returns-then-eq : goal.returns-then-eq
returns-then-eq c =
    let here = named c.args.limits.now c.loop-place.place c.index-limits-place.result c.loop-place-test.true c.index-limits-place.is in
    let same : c.as_str.result.now ≡ c.args.name.now = (bytes_eq-Decides c.as_str.result.now c.args.name.now).0 (sym c.eq.ensures ∙ c.if-eq.true) in
    here ∙ ap Some (sym c.as_str.ensures.value ∙ same)

pub loop-place-preserved : goal.loop-place-preserved
loop-place-preserved c =
    let names = keys_of (limits_view c.args.limits.now) in
    let i = c.loop-place.place in
    let k = c.loop-place.invariant in
    let here = named c.args.limits.now i c.index-limits-place.result c.loop-place-test.true c.index-limits-place.is in
    let apart : k.0 ≡ i → ⊥ = λ h.
    let at_i : get_or names i [] ≡ c.args.name.now = ap (λ j. get_or names j []) (sym h) ∙ k.3 in
    let is : get_or names i [] ≡ string_bytes c.index-limits-place.result.name = get_or_from_slice_get names i (string_bytes c.index-limits-place.result.name) [] here in
    let same : c.as_str.result.now ≡ c.args.name.now = c.as_str.ensures.value ∙ (sym is ∙ at_i) in
    false≢true (sym c.if-eq.false ∙ (c.eq.ensures ∙ (bytes_eq-Decides c.as_str.result.now c.args.name.now).1 same)) in
    (k.0, omega (arith, k.1, apart), k.2, k.3)

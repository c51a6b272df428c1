-- Each turn adds a name.
use Rattle.std.proofs.Common.{◌≡◌, ◌+◌, ℕ, ℤ, pos, List, drop, get_or, to_z, of_z, FitsSigned, String, Global, string_bytes, sym, ap, ◌∙◌, arith, rules}
use Rattle.std.proofs.lemmas.Int.{to_z-of_z}
use Rattle.std.specs.Int.{w64}
use Rattle.std.proofs.Math.ListN.{drop_of_length-le}
use Rattle.std.specs.List.{zip}
use Rattle.std.specs.Map.{keys_of}
use Rattle.price_core.specs.Limits.{limits_view}
use Rattle.price_core.specs.declared.totals.Limit.{Limit}
use Rattle.transport_core.specs.Certificate.{beta_row}
use Rattle.transport_core.proofs.Arcs.{element_here}
use Rattle.transport_core.proofs.Ranges.{from_here}
use Rattle.transport_plan.proofs.PushedRows.{all_pushed, one_more}
use Rattle.transport_plan.proofs.certifying.beta_rows.Goals as goal

abbrev keys : List Limit → List (List ℕ)
keys limits = keys_of (limits_view limits)

row_is : (text : String Global) (name : List ℕ) (z shown : ℤ) → string_bytes text ≡ name → shown ≡ z → beta_row (text, shown) ≡ (name, z)
row_is text name z shown text_is shown_is = cc

pub loop-place-preserved : goal.loop-place-preserved
loop-place-preserved c =
    let limits = c.args.limits.now in
    let duals = c.args.duals.now in
    let i = c.loop-place.place in
    let l = c.index-limits-place.result in
    let z = get_or duals i (pos 0) in
    let fits : FitsSigned w64 z = search rules in
    let at_keys = ap keys (from_here limits i l (omega (arith, c.loop-place-test.true, c.requires)) c.index-limits-place.is) in
    let at_duals = element_here duals i (pos 0) c.loop-place-test.true in
    one_more beta_row c.loop-place.rows.items (zip (keys limits) duals) c.push.new.self.items _ (string_bytes l.name) z (keys (drop i limits)) (keys (drop (i + 1) limits)) (drop i duals) (drop (i + 1) duals) at_keys at_duals c.in_ok-push.ensures.items
    (row_is c.in_ok-clone.field-0 (string_bytes l.name) z (to_z w64 (of_z w64 z)) (c.in_ok-clone.ensures.cases ∙ ap (λ (x : Limit). string_bytes x.name) (sym c.index-limits-place.is)) (to_z-of_z w64 z fits)) c.loop-place.invariant

pub returns : goal.returns
returns c =
    let limits = c.args.limits.now in
    let duals = c.args.duals.now in
    let i = c.loop-place.place in
    all_pushed beta_row c.loop-place.rows.items (zip (keys limits) duals) (keys (drop i limits)) (drop i duals) (ap keys (drop_of_length-le limits (omega (arith, c.loop-place-test.false, c.requires)))) c.loop-place.invariant

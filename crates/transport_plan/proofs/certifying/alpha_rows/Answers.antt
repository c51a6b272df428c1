-- Each turn adds a group.
use Rattle.std.proofs.Common.{◌≡◌, ◌+◌, ℕ, ℤ, pos, List, drop, get_or, to_z, of_z, FitsSigned, String, Global, string_bytes, ap, arith, rules}
use Rattle.std.proofs.lemmas.Int.{to_z-of_z}
use Rattle.std.specs.Int.{w64}
use Rattle.std.proofs.Math.ListN.{drop_of_length-le}
use Rattle.std.specs.List.{zip}
use Rattle.std.specs.Map.{keys_of}
use Rattle.transport_core.specs.Certificate.{alpha_row}
use Rattle.transport_core.specs.Groups.{GroupKey, row_view, rows_view}
use Rattle.transport_core.proofs.Arcs.{Row, element_here, no_row}
use Rattle.transport_plan.proofs.PushedRows.{all_pushed, one_more}
use Rattle.transport_plan.proofs.certifying.alpha_rows.Goals as goal

abbrev keys : List Row → List GroupKey
keys groups = keys_of (rows_view groups)

row_is : (text : String Global) (name : List ℕ) (count : ℕ) (z shown : ℤ) → string_bytes text ≡ name → shown ≡ z → alpha_row (text, count, shown) ≡ ((name, count), z)
row_is text name count z shown text_is shown_is = cc

pub loop-place-preserved : goal.loop-place-preserved
loop-place-preserved c =
    let groups = c.args.groups.now in
    let duals = c.args.duals.now in
    let i = c.loop-place.place in
    let g = get_or groups i no_row in
    let z = get_or duals i (pos 0) in
    let fits : FitsSigned w64 z = search rules in
    let at_keys = ap keys (element_here groups i no_row (omega (arith, c.loop-place-test.true, c.requires))) in
    let at_duals = element_here duals i (pos 0) c.loop-place-test.true in
    one_more alpha_row c.loop-place.rows.items (zip (keys groups) duals) c.push.new.self.items _ (row_view g).0 z (keys (drop i groups)) (keys (drop (i + 1) groups)) (drop i duals) (drop (i + 1) duals) at_keys at_duals c.in_ok-push.ensures.items
    (row_is c.in_ok-from_str.field-0 (row_view g).0.0 g.0.1 z (to_z w64 (of_z w64 z)) c.in_ok-from_str.ensures.ok (to_z-of_z w64 z fits)) c.loop-place.invariant

pub returns : goal.returns
returns c =
    let groups = c.args.groups.now in
    let duals = c.args.duals.now in
    let i = c.loop-place.place in
    all_pushed alpha_row c.loop-place.rows.items (zip (keys groups) duals) (keys (drop i groups)) (drop i duals) (ap keys (drop_of_length-le groups (omega (arith, c.loop-place-test.false, c.requires)))) c.loop-place.invariant

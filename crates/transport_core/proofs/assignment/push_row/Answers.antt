use Rattle.std.proofs.Common.{◌≡◌, ◌+◌, ◌++◌, ℕ, List, [], drop, get_or, string_bytes, sym, ap, ◌∙◌, arith}
use Rattle.std.proofs.Math.ListN.{drop_of_length-le}
use Rattle.std.proofs.lemmas.List.{append-nil}
use Rattle.std.specs.Map.{keys_of}
use Rattle.price_core.specs.Limits.{limits_view}
use Rattle.price_core.specs.declared.totals.Limit.{Limit}
use Rattle.transport_core.specs.Assignment.{Arc, assigned_view, row_flows}
use Rattle.transport_core.specs.Groups.{row_view}
use Rattle.transport_core.proofs.Arcs.{row_here, element_here}
use Rattle.transport_core.proofs.Ranges.{from_here}
use Rattle.transport_core.proofs.Spread.{no_numbers, one_more}
use Rattle.transport_core.proofs.assignment.push_row.Goals as goal

pub loop-place-preserved : goal.loop-place-preserved
loop-place-preserved c =
    let limits = c.args.limits.now in
    let row = c.args.row.now in
    let i = c.loop-place.place in
    let g = (row_view c.args.group.now).0 in
    let l = c.index-limits-place.result in
    let k = get_or row i 0 in
    let here = row_here g limits row i l k (from_here limits i l (omega (arith, c.loop-place-test.true, c.requires)) c.index-limits-place.is) (element_here row i 0 c.loop-place-test.true) in
    let rest = row_flows g (keys_of (limits_view (drop (i + 1) limits))) (drop (i + 1) row) in
    let same = ap (λ (n : List ℕ). let f : Arc × ℕ = ((g, n), k) in f) (c.as_str.ensures.value ∙ ap (λ (x : Limit). string_bytes x.name) (sym c.index-limits-place.is)) in
    one_more _ _ _ ((g, string_bytes l.name), k) rest _ c.in_ok-push.ensures.items same (ap (λ (fs : List (Arc × ℕ)). assigned_view c.loop-place.rows.items ++ fs) (sym here) ∙ c.loop-place.invariant)

pub returns : goal.returns
returns c =
    let g = (row_view c.args.group.now).0 in
    let i = c.loop-place.place in
    let names = keys_of (limits_view (drop i c.args.limits.now)) in
    let none : drop i c.args.row.now ≡ [] = drop_of_length-le c.args.row.now c.loop-place-test.false in
    let empty = ap (row_flows g names) none ∙ no_numbers g names in
    sym (append-nil (assigned_view c.loop-place.rows.items)) ∙ (ap (λ (fs : List (Arc × ℕ)). assigned_view c.loop-place.rows.items ++ fs) (sym empty) ∙ c.loop-place.invariant)

use Rattle.std.proofs.Common.{◌+◌, ◌-◌, ◌<◌, ◌≤◌, arith}
use Rattle.std.specs.List.{range_with_len}
use Rattle.std.specs.Map.{keys_of}
use Rattle.price_core.specs.Limits.{limits_view}
use Rattle.picture.specs.Changes.{row_end, row_told}
use Rattle.picture.specs.Told.{told}
use Rattle.picture.proofs.Remaining.{all_told, at_foot, first_row, range_ended, range_front}
use Rattle.picture.proofs.switches.add_rows.Goals as goal

pub loop-from-preserved : goal.loop-from-preserved
loop-from-preserved c =
    let l = c.loop-from in
    let change = c.args.change.now in
    let names = keys_of (limits_view c.args.limits.now) in
    let n = change.table.now.0 in
    let inside : l.from < n = omega (arith, c.loop-from-test.true, c.requires) in
    first_row (row_told change.prices.now names change.table.now) (row_end change.prices.now names change.table.now) l.row (range_with_len l.from (n - l.from)) (told l.elements.items) _ _
    l.from (range_with_len (l.from + 1) (n - (l.from + 1))) (told c.add_row.new.elements.items) c.in_ok-row.row
    (range_front n l.from inside) c.in_ok-row.ensures.told c.in_ok-row.ensures.below l.invariant

pub returns-clause-told : goal.returns-clause-told
returns-clause-told c =
    let l = c.loop-from in
    let change = c.args.change.now in
    let names = keys_of (limits_view c.args.limits.now) in
    let n = change.table.now.0 in
    let all : n ≤ l.from = omega (arith, c.loop-from-test.false, c.requires) in
    all_told (row_told change.prices.now names change.table.now) (row_end change.prices.now names change.table.now) l.row (range_with_len l.from (n - l.from)) (told l.elements.items) _ _ (range_ended n l.from all) l.invariant

pub returns-clause-below : goal.returns-clause-below
returns-clause-below c =
    let l = c.loop-from in
    let change = c.args.change.now in
    let names = keys_of (limits_view c.args.limits.now) in
    let n = change.table.now.0 in
    let all : n ≤ l.from = omega (arith, c.loop-from-test.false, c.requires) in
    at_foot (row_told change.prices.now names change.table.now) (row_end change.prices.now names change.table.now) l.row (range_with_len l.from (n - l.from)) (told l.elements.items) _ _ (range_ended n l.from all) l.invariant

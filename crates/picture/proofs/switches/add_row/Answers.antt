use Rattle.std.proofs.Common.{◌≡◌, ◌+◌, ◌-◌, ◌<◌, ◌≤◌, arith, sym, ◌∙◌}
use Rattle.std.specs.List.{range_with_len}
use Rattle.std.specs.Map.{keys_of}
use Rattle.price_core.specs.Limits.{limits_view}
use Rattle.rule_switches.specs.Table.{name_of}
use Rattle.rule_switches.proofs.TablePlacing.{key_at}
use Rattle.picture.specs.Changes.{between_end, between_told}
use Rattle.picture.specs.Told.{told}
use Rattle.picture.proofs.Remaining.{all_told, at_foot, first_row, range_ended, range_front}
use Rattle.picture.proofs.switches.add_row.Goals as goal

pub loop-to-preserved : goal.loop-to-preserved
loop-to-preserved c =
    let l = c.loop-to in
    let change = c.args.change.now in
    let limits = c.args.limits.now in
    let names = keys_of (limits_view limits) in
    let n = change.table.now.0 in
    let a : c.as_str-a.result.now ≡ name_of names c.args.from = c.as_str-a.ensures.value ∙ sym (key_at limits c.args.from c.index-limits-from.result c.requires.inside) in
    let b : c.as_str-b.result.now ≡ name_of names l.to = c.as_str-b.ensures.value ∙ sym (key_at limits l.to c.index-limits-to.result c.loop-to-test.true) in
    let inside : l.to < n = omega (arith, c.loop-to-test.true, c.requires.width) in
    let listed = rw (a, b, c.get-switch.ensures) at c.in_ok-row.ensures.told in
    let ends = rw (a, b, c.get-switch.ensures) at c.in_ok-row.ensures.below in
    first_row (between_told change.prices.now names change.table.now c.args.from) (between_end change.prices.now names change.table.now c.args.from) l.row (range_with_len l.to (n - l.to)) (told l.elements.items) _ _
    l.to (range_with_len (l.to + 1) (n - (l.to + 1))) (told c.add_switch.new.elements.items) c.in_ok-row.row
    (range_front n l.to inside) listed ends l.invariant

pub returns-clause-told : goal.returns-clause-told
returns-clause-told c =
    let l = c.loop-to in
    let change = c.args.change.now in
    let names = keys_of (limits_view c.args.limits.now) in
    let n = change.table.now.0 in
    let all : n ≤ l.to = omega (arith, c.loop-to-test.false, c.requires.width) in
    all_told (between_told change.prices.now names change.table.now c.args.from) (between_end change.prices.now names change.table.now c.args.from) l.row (range_with_len l.to (n - l.to)) (told l.elements.items) _ _ (range_ended n l.to all) l.invariant

pub returns-clause-below : goal.returns-clause-below
returns-clause-below c =
    let l = c.loop-to in
    let change = c.args.change.now in
    let names = keys_of (limits_view c.args.limits.now) in
    let n = change.table.now.0 in
    let all : n ≤ l.to = omega (arith, c.loop-to-test.false, c.requires.width) in
    at_foot (between_told change.prices.now names change.table.now c.args.from) (between_end change.prices.now names change.table.now c.args.from) l.row (range_with_len l.to (n - l.to)) (told l.elements.items) _ _ (range_ended n l.to all) l.invariant

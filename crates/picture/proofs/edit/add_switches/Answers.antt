use Rattle.std.proofs.Common.{◌+◌, drop}
use Rattle.rule_switches.specs.Switches.{row_view, rows_view}
use Rattle.picture.specs.Edits.{inputs_end, inputs_told}
use Rattle.picture.specs.Told.{told}
use Rattle.picture.proofs.Remaining.{all_told, at_foot, ended, first_row, front}
use Rattle.picture.proofs.edit.add_switches.Goals as goal

pub loop-switch-preserved : goal.loop-switch-preserved
loop-switch-preserved c =
    let l = c.loop-switch in
    let switches = c.args.switches.now in
    let item = c.switch-item.result in
    first_row inputs_told inputs_end l.row (rows_view (drop l.switch-index switches)) (told l.elements.items) _ _
    (row_view item) (rows_view (drop (l.switch-index + 1) switches)) (told c.add_switch.new.elements.items) c.in_ok-row.row
    (front row_view switches l.switch-index item c.loop-switch-test.true c.switch-item.is) c.in_ok-row.ensures.told c.in_ok-row.ensures.below l.invariant

pub returns-clause-told : goal.returns-clause-told
returns-clause-told c =
    let l = c.loop-switch in
    let switches = c.args.switches.now in
    all_told inputs_told inputs_end l.row (rows_view (drop l.switch-index switches)) (told l.elements.items) _ _ (ended row_view switches l.switch-index c.loop-switch-test.false) l.invariant

pub returns-clause-below : goal.returns-clause-below
returns-clause-below c =
    let l = c.loop-switch in
    let switches = c.args.switches.now in
    at_foot inputs_told inputs_end l.row (rows_view (drop l.switch-index switches)) (told l.elements.items) _ _ (ended row_view switches l.switch-index c.loop-switch-test.false) l.invariant

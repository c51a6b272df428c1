use Rattle.std.proofs.Common.{◌++◌, drop}
use Rattle.rule_switches.specs.Switches.{rows_view}
use Rattle.picture.specs.Edits.{inputs_end, inputs_told}
use Rattle.picture.specs.Told.{foot, rows_told, told}
use Rattle.picture.proofs.Remaining.{Stands}
use Rattle.picture.proofs.edit.add_switches.Given as goal

-- the rows that are left
abbrev pub invariant-loop-switch : goal.invariant-loop-switch
invariant-loop-switch l =
    let rows = rows_view l.switches in
    Stands inputs_told inputs_end l.row (rows_view (drop l.switch-index l.switches)) (told l.elements.items) (told l.fn.elements.items ++ rows_told inputs_told inputs_end l.y rows) (foot inputs_end l.y rows)

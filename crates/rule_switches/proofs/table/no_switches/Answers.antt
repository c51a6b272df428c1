use Rattle.std.proofs.Common.{length, ◌∙◌}
use Rattle.rule_switches.specs.Table.{no_switch}
use Rattle.rule_switches.proofs.TablePlacing.{row_more}
use Rattle.rule_switches.proofs.table.no_switches.Goals as goal

pub loop-preserved : goal.loop-preserved
loop-preserved c =
    let l = c.loop in
    let n = length c.args.names.now in
    (l.invariant.0, c.in_ok-extend_from_slice.ensures.items ∙ rw (c.as_slice.ensures.value, l.invariant.0, l.invariant.1) (row_more l.index n no_switch))

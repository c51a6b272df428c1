use Rattle.std.proofs.Common.{List, sym, subst, arith}
use Rattle.std.specs.Map.{keys_of}
use Rattle.price_core.specs.Limits.{limits_view}
use Rattle.rule_switches.specs.Runs.{AreFew, runs_view}
use Rattle.rule_switches.specs.declared.change.Run.{Run}
use Rattle.rule_switches.proofs.TablePlacing.{apart}
use Rattle.rule_switches.proofs.Told.{few_runs, told}
use Rattle.rule_switches.proofs.table.switch_table.Goals as goal

pub table_of-requires-clause-apart : goal.table_of-requires-clause-apart
table_of-requires-clause-apart c = apart (keys_of (limits_view c.entries.result.now)) (rw c.entries.ensures.value c.entries.ensures.lawful.rise)

pub table_of-requires-clause-few : goal.table_of-requires-clause-few
table_of-requires-clause-few c =
    subst (λ (xs : List Run). AreFew (runs_view xs)) (sym c.as_slice.ensures.value)
    (few_runs c.args.old.now c.args.new.now c.args.counts.now (runs_view c.in_ok-runs.runs.items) c.in_ok-runs.ensures (omega (arith, c.total-total.ensures.allowed.small, c.total-total.ensures.value)) c.requires.few)

pub returns : goal.returns
returns c =
    told c.args.old.now c.args.new.now c.args.counts.now (keys_of c.args.totals.now) (runs_view c.in_ok-runs.runs.items) c.in_ok-table.table c.in_ok-runs.ensures c.requires.points
    (rw (c.entries.ensures.value, c.as_slice.ensures.value) at c.in_ok-table.ensures)

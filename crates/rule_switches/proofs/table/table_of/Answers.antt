use Rattle.std.proofs.Common.{◌+◌, List, drop, length, sym, ap, subst, arith}
use Rattle.std.specs.Map.{keys_of}
use Rattle.std.proofs.lemmas.List.{drop_all}
use Rattle.price_core.specs.Limits.{limits_view}
use Rattle.rule_switches.specs.Runs.{Run, runs_view}
use Rattle.rule_switches.proofs.TablePlacing.{long_keys}
use Rattle.rule_switches.proofs.Tables.{IsFilled, filled_all, filled_more, filled_small, next_run}
use Rattle.rule_switches.proofs.table.table_of.Goals as goal

pub add_run-requires-clause-small : goal.add_run-requires-clause-small
add_run-requires-clause-small c =
    filled_small (keys_of (limits_view c.args.names.now)) (runs_view c.args.runs.now) (runs_view (drop c.loop-run.run-index c.args.runs.now)) c.loop-run.switches.items c.requires.few c.loop-run.invariant

pub loop-run-preserved : goal.loop-run-preserved
loop-run-preserved c =
    let names = keys_of (limits_view c.args.names.now) in
    let runs = c.args.runs.now in
    let at = c.loop-run.run-index in
    filled_more names (runs_view runs) (runs_view (drop (at + 1) runs)) _ c.loop-run.switches.items c.add_run.new.switches.items
    (subst (λ (left : List Run). IsFilled names (runs_view runs) left c.loop-run.switches.items) (next_run runs at _ c.loop-run-test.true) c.loop-run.invariant) c.add_run.ensures

pub returns : goal.returns
returns c =
    let names = keys_of (limits_view c.args.names.now) in
    let runs = c.args.runs.now in
    let at = c.loop-run.run-index in
    let none = ap runs_view (drop_all at runs (omega (arith, c.loop-run-test.false))) in
    filled_all names (runs_view runs) (length c.args.names.now) c.loop-run.switches.items (sym (long_keys c.args.names.now))
    (subst (λ (left : List Run). IsFilled names (runs_view runs) left c.loop-run.switches.items) none c.loop-run.invariant)

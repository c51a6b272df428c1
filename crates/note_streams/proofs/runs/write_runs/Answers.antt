use Rattle.std.proofs.Common.{◌+◌, drop, arith, rules}
use Rattle.note_streams.specs.View.{outcomes_view, recorded_view}
use Rattle.note_streams.specs.Runs.{runs_view}
use Rattle.note_streams.proofs.Counts.{begun_counts, end_counts, fits_counts, next_counts, stop_counts}
use Rattle.note_streams.proofs.Running.{at_run, begun, breaks, ended, fits, next, no_run, stops}
use Rattle.note_streams.proofs.runs.write_runs.Goals as goal

pub loop-run-init : goal.loop-run-init
loop-run-init g c = record { whole = c.requires.whole; counts = begun_counts (outcomes_view c.none-outcomes.result) (runs_view c.args.runs.now).outcomes c.none-outcomes.ensures; under = begun (g.O.Outlet.bytes c.args.out.now) (runs_view c.args.runs.now) }

pub returns-then-not-write_whole-clause-exact : goal.returns-then-not-write_whole-clause-exact
returns-then-not-write_whole-clause-exact g c =
    let runs = c.args.runs.now in
    let i = c.loop-run.run-index in
    let run = recorded_view c.run-item.result in
    let left = runs_view (drop (i + 1) runs) in
    let old = g.O.Outlet.bytes c.args.out.now in
    let mid = g.O.Outlet.bytes c.loop-run.out in
    let under = at_run old mid c.loop-run.lines runs i c.run-item.result (omega arith) c.run-item.is c.loop-run.invariant.under in
    breaks old mid (g.O.Outlet.bytes c.write_whole.new.out) c.loop-run.lines run left (runs_view runs) under (search rules)

pub overflow_add-lines : goal.overflow_add-lines
overflow_add-lines g c =
    let runs = c.args.runs.now in
    let i = c.loop-run.run-index in
    let old = g.O.Outlet.bytes c.args.out.now in
    let mid = g.O.Outlet.bytes c.loop-run.out in
    let under = at_run old mid c.loop-run.lines runs i c.run-item.result (omega arith) c.run-item.is c.loop-run.invariant.under in
    omega (arith, fits old mid mid c.loop-run.lines (recorded_view c.run-item.result) (runs_view (drop (i + 1) runs)) (runs_view runs) under, c.requires.room)

pub both-outcomes-requires : goal.both-outcomes-requires
both-outcomes-requires g c =
    let runs = c.args.runs.now in
    let fits = fits_counts runs c.loop-run.run-index c.run-item.result (omega arith) c.run-item.is (outcomes_view c.loop-run.outcomes) (runs_view runs).outcomes (runs_view runs).lines c.loop-run.invariant.counts c.requires.few in
    omega (arith, fits, c.requires.room)

pub returns-then-run-clause-exact : goal.returns-then-run-clause-exact
returns-then-run-clause-exact g c =
    let runs = c.args.runs.now in
    let i = c.loop-run.run-index in
    let old = g.O.Outlet.bytes c.args.out.now in
    let mid = g.O.Outlet.bytes c.loop-run.out in
    let under = at_run old mid c.loop-run.lines runs i c.run-item.result (omega arith) c.run-item.is c.loop-run.invariant.under in
    stops old mid (g.O.Outlet.bytes c.write_whole.new.out) c.loop-run.lines (recorded_view c.run-item.result) (runs_view (drop (i + 1) runs)) (runs_view runs) under c.if-run.true (search rules)

pub loop-run-preserved : goal.loop-run-preserved
loop-run-preserved g c =
    let runs = c.args.runs.now in
    let i = c.loop-run.run-index in
    let old = g.O.Outlet.bytes c.args.out.now in
    let mid = g.O.Outlet.bytes c.loop-run.out in
    let under = at_run old mid c.loop-run.lines runs i c.run-item.result (omega arith) c.run-item.is c.loop-run.invariant.under in
    record {
      whole = search rules;
      counts = next_counts runs i c.run-item.result (omega arith) c.run-item.is (outcomes_view c.loop-run.outcomes) (outcomes_view c.both-outcomes.result) (runs_view runs).outcomes c.both-outcomes.ensures c.loop-run.invariant.counts c.if-run.false;
      under = next old mid (g.O.Outlet.bytes c.write_whole.new.out) c.loop-run.lines (recorded_view c.run-item.result) (runs_view (drop (i + 1) runs)) (runs_view runs) under c.if-run.false (search rules);
    }

pub returns-clause-exact : goal.returns-clause-exact
returns-clause-exact g c =
    let runs = c.args.runs.now in
    let i = c.loop-run.run-index in
    ended (g.O.Outlet.bytes c.args.out.now) (g.O.Outlet.bytes c.loop-run.out) c.loop-run.lines (runs_view (drop i runs)) (runs_view runs) (no_run runs i (omega arith)) c.loop-run.invariant.under

pub returns-then-run-clause-counted : goal.returns-then-run-clause-counted
returns-then-run-clause-counted g c =
    let runs = c.args.runs.now in
    stop_counts runs c.loop-run.run-index c.run-item.result (omega arith) c.run-item.is (outcomes_view c.loop-run.outcomes) (outcomes_view c.both-outcomes.result) (runs_view runs).outcomes c.both-outcomes.ensures c.loop-run.invariant.counts c.if-run.true

pub returns-clause-counted : goal.returns-clause-counted
returns-clause-counted g c =
    let runs = c.args.runs.now in
    end_counts runs c.loop-run.run-index (outcomes_view c.loop-run.outcomes) (runs_view runs).outcomes (omega arith) c.loop-run.invariant.counts

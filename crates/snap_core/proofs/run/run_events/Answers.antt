use Rattle.std.proofs.Common.{sym, arith, subst}
use Rattle.snap_core.specs.Agreement.{RunsFirst}
use Rattle.snap_core.specs.Event.{answers_view, events_view}
use Rattle.snap_core.specs.WorldView.{Stored, world_view}
use Rattle.snap_core.proofs.Ran.{runs_first, runs_next}
use Rattle.snap_core.proofs.run.run_events.Goals as goal

pub returns-in-Err-run_next-clause-short : goal.returns-in-Err-run_next-clause-short
returns-in-Err-run_next-clause-short c =
    let old = world_view c.args.world.now in
    let i = c.loop-i.i in
    subst (λ (st : Stored). RunsFirst old (events_view c.args.events.now) i st) (sym c.in-Err-run_next.ensures.kept)
    (runs_first old (world_view c.loop-i.world) c.args.events.now i (answers_view c.loop-i.answers.items) c.loop-i.invariant.ran)

pub loop-i-preserved : goal.loop-i-preserved
loop-i-preserved c =
    let ok = c.in-Ok-run_next.ensures in
    let size = c.loop-i.invariant.size in
    let room = c.loop-i.invariant.room in
    let more = ok.len in
    let grown = ok.room in
    record {
      ran = runs_next (world_view c.args.world.now) (world_view c.loop-i.world) (world_view c.run_next.new.world) c.args.events.now c.loop-i.i c.index-events-i.result (answers_view c.loop-i.answers.items) (answers_view c.run_next.new.answers.items) ok.steps.0 c.loop-i-test.true c.index-events-i.is ok.steps.1 c.loop-i.invariant.ran ok.steps.2;
      size = omega (arith, size, more);
      room = omega (arith, room, grown);
    }

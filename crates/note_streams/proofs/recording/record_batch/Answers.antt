use Rattle.std.proofs.Common.{◌+◌, ◌∙◌, ℕ, ap, sym, arith}
use Rattle.note_streams.proofs.Both.{contexts-both}
use Rattle.note_streams.specs.Outcomes.{contexts}
use Rattle.note_streams.specs.Scene.{scene_of}
use Rattle.note_streams.specs.View.{outcomes_view}
use Rattle.note_streams.specs.Runs.{runs_view}
use Rattle.note_streams.proofs.Batches.{few_recorded}
use Rattle.note_streams.proofs.Counts.{batch_counts, few_recorded_contexts}
use Rattle.note_streams.proofs.Parts.{fronts, leaves}
use Rattle.note_streams.proofs.Running.{recorded_of_cut}
use Rattle.note_streams.proofs.recording.record_batch.Goals as goal

pub write_runs-requires-clause-room : goal.write_runs-requires-clause-room
write_runs-requires-clause-room g c =
    let s = scene_of c.args.recorder.now in
    let lines = c.in_ok-lines.lines.items in
    let runs = c.as_slice-2.result.now in
    let is = recorded_of_cut s lines c.as_slice.result.now c.in_ok-runs.runs.items runs c.as_slice.ensures.value c.as_slice-2.ensures.value c.in_ok-runs.ensures in
    omega (arith, few_recorded s lines (runs_view runs) is, c.in_ok-lines.ensures.fewer, c.requires.room)

pub write_runs-requires-clause-few : goal.write_runs-requires-clause-few
write_runs-requires-clause-few g c =
    let s = scene_of c.args.recorder.now in
    let lines = c.in_ok-lines.lines.items in
    let runs = c.as_slice-2.result.now in
    let is = recorded_of_cut s lines c.as_slice.result.now c.in_ok-runs.runs.items runs c.as_slice.ensures.value c.as_slice-2.ensures.value c.in_ok-runs.ensures in
    few_recorded_contexts s lines (runs_view runs) is

pub both-totals-requires : goal.both-totals-requires
both-totals-requires g c =
    let s = scene_of c.args.recorder.now in
    let lines = c.in_ok-lines.lines.items in
    let runs = c.as_slice-2.result.now in
    let is = recorded_of_cut s lines c.as_slice.result.now c.in_ok-runs.runs.items runs c.as_slice.ensures.value c.as_slice-2.ensures.value c.in_ok-runs.ensures in
    let own = ap contexts c.in-Some.ensures.counted in
    omega (arith, own, few_recorded_contexts s lines (runs_view runs) is, few_recorded s lines (runs_view runs) is, c.in_ok-lines.ensures.fewer, c.requires.few, c.requires.room)

pub returns-in_default-clause-exact : goal.returns-in_default-clause-exact
returns-in_default-clause-exact g c =
    let s = scene_of c.args.recorder.now in
    let lines = c.in_ok-lines.lines.items in
    let runs = c.as_slice-2.result.now in
    let is = recorded_of_cut s lines c.as_slice.result.now c.in_ok-runs.runs.items runs c.as_slice.ensures.value c.as_slice-2.ensures.value c.in_ok-runs.ensures in
    fronts s c.args.bytes.now c.in_ok-lines.rest.now lines (runs_view runs) is c.in_ok-lines.ensures.cut (g.O.Outlet.bytes c.args.out.now) (g.O.Outlet.bytes c.write_runs.new.out) c.in_default.ensures.exact

pub overflow_add-totals : goal.overflow_add-totals
overflow_add-totals g c =
    let s = scene_of c.args.recorder.now in
    let lines = c.in_ok-lines.lines.items in
    let runs = c.as_slice-2.result.now in
    let is = recorded_of_cut s lines c.as_slice.result.now c.in_ok-runs.runs.items runs c.as_slice.ensures.value c.as_slice-2.ensures.value c.in_ok-runs.ensures in
    omega (arith, few_recorded s lines (runs_view runs) is, c.in-Some.ensures.exact.0, c.in_ok-lines.ensures.fewer, c.requires.room)

pub overflow_add-result : goal.overflow_add-result
overflow_add-result g c =
    let s = scene_of c.args.recorder.now in
    let lines = c.in_ok-lines.lines.items in
    let runs = c.as_slice-2.result.now in
    let is = recorded_of_cut s lines c.as_slice.result.now c.in_ok-runs.runs.items runs c.as_slice.ensures.value c.as_slice-2.ensures.value c.in_ok-runs.ensures in
    omega (arith, few_recorded s lines (runs_view runs) is, c.in-Some.ensures.exact.0, c.in_ok-lines.ensures.fewer, c.requires.room)

pub returns-clause-exact : goal.returns-clause-exact
returns-clause-exact g c =
    let s = scene_of c.args.recorder.now in
    let before = c.args.totals.now.lines in
    let lines = c.in_ok-lines.lines.items in
    let runs = c.as_slice-2.result.now in
    let is = recorded_of_cut s lines c.as_slice.result.now c.in_ok-runs.runs.items runs c.as_slice.ensures.value c.as_slice-2.ensures.value c.in_ok-runs.ensures in
    let exact = c.in-Some.ensures.exact in
    leaves s c.args.bytes.now c.in_ok-lines.rest.now lines (runs_view runs) is c.in_ok-lines.ensures.cut c.in_ok-lines.ensures.rest before (before + c.in-Some.written.lines) (g.O.Outlet.bytes c.args.out.now) (g.O.Outlet.bytes c.write_runs.new.out)
    exact.2 (sym exact.1 ∙ c.if-written.false) c.if-rest-gt-TEXT_BYTES.false (ap (λ (n : ℕ). before + n) exact.0) c.in_ok-lines.ensures.fewer

pub returns-clause-counted : goal.returns-clause-counted
returns-clause-counted g c =
    let s = scene_of c.args.recorder.now in
    let lines = c.in_ok-lines.lines.items in
    let runs = c.as_slice-2.result.now in
    let is = recorded_of_cut s lines c.as_slice.result.now c.in_ok-runs.runs.items runs c.as_slice.ensures.value c.as_slice-2.ensures.value c.in_ok-runs.ensures in
    batch_counts s c.args.bytes.now c.in_ok-lines.rest.now lines (runs_view runs) is c.in_ok-lines.ensures.cut (sym c.in-Some.ensures.exact.1 ∙ c.if-written.false) (outcomes_view c.args.totals.now.outcomes) (outcomes_view c.both-totals.result)
    (outcomes_view c.in-Some.written.outcomes) c.in-Some.ensures.counted c.both-totals.ensures

pub returns-clause-fewer : goal.returns-clause-fewer
returns-clause-fewer g c =
    let s = scene_of c.args.recorder.now in
    let lines = c.in_ok-lines.lines.items in
    let runs = c.as_slice-2.result.now in
    let is = recorded_of_cut s lines c.as_slice.result.now c.in_ok-runs.runs.items runs c.as_slice.ensures.value c.as_slice-2.ensures.value c.in_ok-runs.ensures in
    let own = ap contexts c.in-Some.ensures.counted in
    let sum = ap contexts c.both-totals.ensures ∙ contexts-both (outcomes_view c.args.totals.now.outcomes) (outcomes_view c.in-Some.written.outcomes) in
    omega (arith, own, sum, few_recorded_contexts s lines (runs_view runs) is, c.in-Some.ensures.exact.0, c.requires.few)

use denote.Param.Send.{sendable}
use Rattle.std.proofs.Crossing.{crosses}
use Rattle.note_streams.proofs.Crossings.{Recorder-sync}
use Rattle.std.proofs.Common.{◌≡◌, ◌++◌, ◌∙◌, [], ◌∷◌, ap, rules}
use Rattle.std.proofs.lemmas.Result.{IfOk-at_ok, IfOk-weaker}
use Rattle.note_streams.specs.Lines.{lines_view}
use Rattle.note_streams.specs.Record.{record_of}
use Rattle.note_streams.specs.Scene.{scene_of}
use Rattle.note_streams.specs.Runs.{runs_view}
use Rattle.note_streams.proofs.Running.{in_order, one_run}
use Rattle.note_streams.proofs.runs.+runs.Goals as goal

-- the closure captures the handle, the allocator, the recorder, the lines of a half and the number of its workers
pub join-runs-requires-send-F : goal.join-runs-requires-send-F
join-runs-requires-send-F g t c = λ κs within. search (sendable, crosses, Recorder-sync) depth 60

pub returns-then-workers-lt2 : goal.returns-then-workers-lt2
returns-then-workers-lt2 g t c =
    let run = c.in_ok-run.run' in
    let one : c.in_ok-vec.field-0.items ≡ run ∷ [] = search rules in
    one_run c.in_ok-vec.field-0.items run (record_of (scene_of c.args.recorder.now) (lines_view c.args.lines.now)) one c.in_ok-run.ensures

pub returns : goal.returns
returns g t c =
    let s = scene_of c.args.recorder.now in
    let lines = c.args.lines.now in
    let front = c.split_at.result.0.now in
    let behind = c.split_at.result.1.now in
    let runs = c.in_ok-runs.field-0.items in
    let later = c.in_ok-later.field-0.items in
    let first : runs_view runs ≡ record_of s (lines_view front) = IfOk-at_ok (λ v. runs_view v.items ≡ record_of s (lines_view front)) {r = c.join-runs.result.0} c.in_ok-runs.was c.join-runs.ensures.first in
    let second : runs_view later ≡ record_of s (lines_view behind) = IfOk-at_ok (λ v. runs_view v.items ≡ record_of s (lines_view behind)) {r = c.join-runs.result.1} c.in_ok-later.was c.join-runs.ensures.second in
    let whole : front ++ behind ≡ lines = search rules in
    IfOk-weaker c.followed.result (λ v. v.items ≡ runs ++ later) (λ v. runs_view v.items ≡ record_of s (lines_view lines)) (λ v all. ap runs_view all ∙ in_order s lines front behind runs later whole first second) c.followed.ensures

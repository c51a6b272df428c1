use Rattle.std.proofs.Common.{◌≡◌, ℕ, List, Result, codes, map, rules, string_bytes, subst}
use Rattle.std.specs.Prelude.{OnOk}
use Rattle.note_streams.specs.LogLines.{files_view}
use Rattle.control_answers.specs.Plan.{IsPlanAnswer}
use Rattle.control_answers.specs.Snapshot.{Snapshot, snapshot_view}
use Rattle.control_answers.specs.View.{bytes_view}
use Rattle.control_answers.specs.declared.refusal.ControlRefusal.{ControlRefusal}
use Rattle.control_desk.specs.Bodies.{TellsObject}
use Rattle.control_desk.proofs.Outcomes.{given, refused}
use Rattle.control_desk.proofs.telling.tell_plan.Goals as goal

-- the plan is told
pub returns-in-Ok : goal.returns-in-Ok
returns-in-Ok c =
    let own : c.in_ok-request.request.items ≡ c.args.request.now = search rules in
    let passed = map string_bytes c.args.passed_over.now in
    let files = files_view c.args.files.now in
    let response = c.tell_object.new.response in
    subst (λ (s : Snapshot). OnOk c.tell_object.result ((r : Result (List ℕ) ControlRefusal) × IsPlanAnswer s c.args.request.now files r × TellsObject (codes "plan") passed r response)) c.snapshot.ensures
    (subst (λ (request : List ℕ). OnOk c.tell_object.result ((r : Result (List ℕ) ControlRefusal) × IsPlanAnswer (snapshot_view c.snapshot.result) request files r × TellsObject (codes "plan") passed r response)) own
    (given bytes_view (IsPlanAnswer (snapshot_view c.snapshot.result) c.in_ok-request.request.items files) (λ (r : Result (List ℕ) ControlRefusal). TellsObject (codes "plan") passed r response) c.tell_object.result c.in-Ok.body c.in-Ok.ensures.exact c.tell_object.ensures))

-- its refusal is told
pub returns-in-Err : goal.returns-in-Err
returns-in-Err c =
    let own : c.in_ok-request.request.items ≡ c.args.request.now = search rules in
    let passed = map string_bytes c.args.passed_over.now in
    let files = files_view c.args.files.now in
    let response = c.tell_refusal.new.response in
    subst (λ (s : Snapshot). OnOk c.tell_refusal.result ((r : Result (List ℕ) ControlRefusal) × IsPlanAnswer s c.args.request.now files r × TellsObject (codes "plan") passed r response)) c.snapshot.ensures
    (subst (λ (request : List ℕ). OnOk c.tell_refusal.result ((r : Result (List ℕ) ControlRefusal) × IsPlanAnswer (snapshot_view c.snapshot.result) request files r × TellsObject (codes "plan") passed r response)) own
    (refused bytes_view (IsPlanAnswer (snapshot_view c.snapshot.result) c.in_ok-request.request.items files) (λ (r : Result (List ℕ) ControlRefusal). TellsObject (codes "plan") passed r response) c.tell_refusal.result c.in-Err.refusal c.in-Err.ensures.exact c.tell_refusal.ensures.refusal c.tell_refusal.ensures.known))

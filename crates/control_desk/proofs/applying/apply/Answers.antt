use Rattle.std.proofs.Common.{Result, codes, refl, subst}
use Rattle.std.proofs.lemmas.Result.{on_ok_weaker}
use Rattle.note_streams.specs.LogLines.{files_view}
use Rattle.control_answers.specs.Apply.{Applied, IsApplyAnswer, applied_view}
use Rattle.control_answers.specs.Snapshot.{Snapshot, snapshot_view}
use Rattle.control_answers.specs.declared.refusal.ControlRefusal.{ControlRefusal}
use Rattle.std.specs.Prelude.{OnOk}
use Rattle.control_desk.specs.Apply.{AppliesIf}
use Rattle.control_desk.specs.Held.{held_view}
use Rattle.control_desk.specs.Bodies.{IsRefusal}
use Rattle.control_desk.proofs.Outcomes.{given, refused}
use Rattle.control_desk.proofs.applying.apply.Goals as goal

-- it is written
pub returns-in-Ok-clause-ok : goal.returns-in-Ok-clause-ok
returns-in-Ok-clause-ok g c =
    let folder = c.args.applying.folder.now in
    let path = c.args.applying.path.now in
    let asker = c.args.applying.asker.now in
    let held = held_view c.args.held.now in
    let files = files_view c.args.logs.now in
    let before = g.F.DeskFiles.holding c.args.files.now in
    let after = g.F.DeskFiles.holding c.write.new.files in
    let failed = g.F.DeskFiles.faults c.args.files.now in
    let failed' = g.F.DeskFiles.faults c.write.new.files in
    let response = c.write.new.response in
    subst (λ (s : Snapshot). OnOk c.write.result ((r : Result Applied ControlRefusal) × IsApplyAnswer s c.args.token.now files r × AppliesIf folder path asker held before after failed failed' response r)) c.snapshot.ensures
    (given applied_view (IsApplyAnswer (snapshot_view c.snapshot.result) c.args.token.now files) (λ (r : Result Applied ControlRefusal). AppliesIf folder path asker held before after failed failed' response r) c.write.result c.in-Ok.applied c.in-Ok.ensures.exact c.write.ensures.ok)

-- its refusal is told, and nothing is written
pub returns-in-Err-clause-ok : goal.returns-in-Err-clause-ok
returns-in-Err-clause-ok g c =
    let folder = c.args.applying.folder.now in
    let path = c.args.applying.path.now in
    let asker = c.args.applying.asker.now in
    let held = held_view c.args.held.now in
    let files = files_view c.args.logs.now in
    let before = g.F.DeskFiles.holding c.args.files.now in
    let failed = g.F.DeskFiles.faults c.args.files.now in
    let response = c.tell_refusal.new.response in
    let told = on_ok_weaker c.tell_refusal.result (λ (is : IsRefusal (codes "apply") c.in-Err.refusal response). (is, refl)) c.tell_refusal.ensures.refusal in
    subst (λ (s : Snapshot). OnOk c.tell_refusal.result ((r : Result Applied ControlRefusal) × IsApplyAnswer s c.args.token.now files r × AppliesIf folder path asker held before before failed failed response r)) c.snapshot.ensures
    (refused applied_view (IsApplyAnswer (snapshot_view c.snapshot.result) c.args.token.now files) (λ (r : Result Applied ControlRefusal). AppliesIf folder path asker held before before failed failed response r) c.tell_refusal.result c.in-Err.refusal c.in-Err.ensures.exact told c.tell_refusal.ensures.known)

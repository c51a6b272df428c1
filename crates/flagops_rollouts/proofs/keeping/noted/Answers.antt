use Rattle.std.proofs.Common.{◌≡◌, ◌||◌, ◌∙◌, ℕ, List, Err, ap, is_some, rules, subst}
use Rattle.std.specs.Result.{result_ok}
use Rattle.flagops_files.specs.Question.{question_view}
use Rattle.plan_text.specs.Answer.{planned_view}
use Rattle.price_core.specs.Request.{asked_of}
use Rattle.flagops_rollouts.specs.Beside.{AreBehind}
use Rattle.flagops_rollouts.specs.Doubts.{doubt_of, doubt_parts, settle}
use Rattle.flagops_rollouts.specs.Finer.{finer_parts, is_finer, times_asked}
use Rattle.flagops_rollouts.specs.Keep.{is_finer_there}
use Rattle.flagops_rollouts.specs.declared.refusal.RolloutCall.TheVariants as call
use Rattle.flagops_rollouts.proofs.Parts.{noted_so, tells_behind}
use Rattle.flagops_rollouts.proofs.Said.{not_noted}
use Rattle.flagops_rollouts.proofs.keeping.noted.Goals as goal

pub returns-in-Ok-clause-exact : goal.returns-in-Ok-clause-exact
returns-in-Ok-clause-exact g c =
    let q = question_view c.args.question.now in
    let answer = planned_view c.args.planned.now in
    let doubted = c.in_ok-doubted.doubted in
    let times = c.in-Ok.ensures ∙ ap (λ (b : List ℕ). times_asked q.flags (result_ok (asked_of b)) answer) c.bytes.ensures in
    noted_so (is_finer_there q answer) (settle call.Apply c.args.strict (doubt_of q)) (is_some doubted) (is_some c.with_points.result) c.in_ok-doubted.ensures.exact
    (c.with_points.ensures.told ∙ ap (λ (m : ℕ). is_some doubted || is_finer m answer) times)

pub returns-in-Ok-clause-notes : goal.returns-in-Ok-clause-notes
returns-in-Ok-clause-notes g c = c.with_points.ensures.notes c.args.book.now c.in_ok-doubted.ensures.notes

pub returns-in-Ok-clause-parts : goal.returns-in-Ok-clause-parts
returns-in-Ok-clause-parts g c =
    let q = question_view c.args.question.now in
    let request = c.args.request.now in
    let answer = planned_view c.args.planned.now in
    let doubted = c.in_ok-doubted.doubted in
    let asked = times_asked q.flags (result_ok (asked_of q.request)) answer in
    let times = c.in-Ok.ensures ∙ ap (λ (b : List ℕ). times_asked q.flags (result_ok (asked_of b)) answer) c.bytes.ensures in
    tells_behind (doubt_parts request c.args.book.now q) (finer_parts request asked answer) doubted c.with_points.result c.in_ok-doubted.ensures.parts
    (subst (λ (m : ℕ). AreBehind (finer_parts request m answer) doubted c.with_points.result) times c.with_points.ensures.beside)

pub returns-in_err-doubted-clause-exact : goal.returns-in_err-doubted-clause-exact
returns-in_err-doubted-clause-exact g c =
    let q = question_view c.args.question.now in
    let is : c.from_residual.result ≡ Err c.in_err-doubted.field-0.0 = search rules in
    not_noted (is_finer_there q (planned_view c.args.planned.now)) (settle call.Apply c.args.strict (doubt_of q)) c.in_err-doubted.field-0.0 c.from_residual.result is c.in_err-doubted.ensures.exact

use Rattle.std.proofs.Common.{◌||◌, ◌∙◌, ℕ, List, ap, is_some, subst}
use Rattle.std.specs.Result.{result_ok}
use Rattle.flag_defs.specs.Flags.{flags_view}
use Rattle.plan_text.specs.Answer.{planned_view}
use Rattle.price_core.specs.Request.{asked_of}
use Rattle.ramp.specs.Steps.{requests_view}
use Rattle.flagops_rollouts.specs.Beside.{AreBehind}
use Rattle.flagops_rollouts.specs.Finer.{finer_parts, is_finer, times_asked}
use Rattle.flagops_ramps.proofs.Noted.{put_first, put_none, put_shown, put_unshown}
use Rattle.flagops_ramps.proofs.keeping.pointed.Goals as goal

pub returns-in_default-clause-told : goal.returns-in_default-clause-told
returns-in_default-clause-told c = put_unshown c.args.path.now (flags_view c.args.flags.now) (requests_view c.args.steps.now) (is_some c.args.noted) c.args.answers.now c.in_default.ensures.value

pub returns-in_default-clause-beside : goal.returns-in_default-clause-beside
returns-in_default-clause-beside c = put_none c.args.path.now (flags_view c.args.flags.now) (requests_view c.args.steps.now) c.args.noted c.args.answers.now c.in_default.ensures.value

pub returns-clause-told : goal.returns-clause-told
returns-clause-told c =
    let flags = flags_view c.args.flags.now in
    let first = planned_view c.in-Some.planned.now in
    let times = c.in_ok-factor.ensures ∙ ap (λ (b : List ℕ). times_asked flags (result_ok (asked_of b)) first) c.first_request.ensures in
    put_shown c.args.path.now flags (requests_view c.args.steps.now) (is_some c.args.noted) (is_some c.with_points.result) c.args.answers.now c.in-Some.planned.now c.in-Some.ensures.value
    (c.with_points.ensures.told ∙ ap (λ (m : ℕ). is_some c.args.noted || is_finer m first) times)

pub returns-clause-beside : goal.returns-clause-beside
returns-clause-beside c =
    let flags = flags_view c.args.flags.now in
    let first = planned_view c.in-Some.planned.now in
    let times = c.in_ok-factor.ensures ∙ ap (λ (b : List ℕ). times_asked flags (result_ok (asked_of b)) first) c.first_request.ensures in
    put_first c.args.path.now flags (requests_view c.args.steps.now) c.args.noted c.with_points.result c.args.answers.now c.in-Some.planned.now c.in-Some.ensures.value
    (subst (λ (m : ℕ). AreBehind (finer_parts c.args.path.now m first) c.args.noted c.with_points.result) times c.with_points.ensures.beside)

pub returns-in_default-clause-notes : goal.returns-in_default-clause-notes
returns-in_default-clause-notes c = λ book said. said

pub returns-clause-notes : goal.returns-clause-notes
returns-clause-notes c = c.with_points.ensures.notes

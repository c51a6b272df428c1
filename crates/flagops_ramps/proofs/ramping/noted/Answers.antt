use Rattle.std.proofs.Common.{◌≡◌, ◌||◌, ℕ, is_some, option_map, subst, unwrap_or}
use Rattle.flagops_rollouts.specs.Beside.{AreBehind}
use Rattle.flagops_rollouts.specs.Finer.{finer_parts, is_finer}
use Rattle.plan_text.specs.Answer.{planned_view}
use Rattle.flagops_ramps.proofs.Noted.{ramp_first, ramp_none, ramp_shown, ramp_unshown}
use Rattle.flagops_ramps.proofs.ramping.noted.Goals as goal

pub returns-in-Some-clause-told : goal.returns-in-Some-clause-told
returns-in-Some-clause-told c =
    let a = c.args.asked.now in
    let doubted = c.args.doubted in
    let shown = c.with_points.result in
    let first = c.in-Some.first.now in
    ramp_shown a.steps.now (unwrap_or (option_map (λ m. m.number) a.refine) 1) doubted shown c.args.answers.now first c.in-Some.ensures.value
    (subst (λ (m : ℕ). is_some shown ≡ (is_some doubted || is_finer m (planned_view first))) c.factor_of-factor.ensures.value c.with_points.ensures.told)

pub returns-in-Some-clause-beside : goal.returns-in-Some-clause-beside
returns-in-Some-clause-beside c =
    let a = c.args.asked.now in
    let doubted = c.args.doubted in
    let shown = c.with_points.result in
    let first = c.in-Some.first.now in
    ramp_first a.steps.now (unwrap_or (option_map (λ m. m.number) a.refine) 1) doubted shown c.args.answers.now first c.in-Some.ensures.value
    (subst (λ (m : ℕ). AreBehind (finer_parts a.steps.now m (planned_view first)) doubted shown) c.factor_of-factor.ensures.value c.with_points.ensures.beside)

pub returns-in-Some-clause-notes : goal.returns-in-Some-clause-notes
returns-in-Some-clause-notes c = c.with_points.ensures.notes c.args.asked.now.book.now

pub returns-in-None-clause-told : goal.returns-in-None-clause-told
returns-in-None-clause-told c = ramp_unshown (unwrap_or (option_map (λ m. m.number) c.args.asked.now.refine) 1) c.args.doubted c.args.answers.now c.in-None.ensures.value

pub returns-in-None-clause-beside : goal.returns-in-None-clause-beside
returns-in-None-clause-beside c = ramp_none c.args.asked.now.steps.now (unwrap_or (option_map (λ m. m.number) c.args.asked.now.refine) 1) c.args.doubted c.args.answers.now c.in-None.ensures.value

pub returns-in-None-clause-notes : goal.returns-in-None-clause-notes
returns-in-None-clause-notes c = λ said. said

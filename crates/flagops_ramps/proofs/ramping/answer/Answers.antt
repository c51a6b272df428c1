use Rattle.std.proofs.Common.{Result, Ok, Err, map, option_map, sym, ap, ◌∙◌, subst}
use Rattle.flagops_files.specs.Question.{Question, question_view}
use Rattle.flagops_shell.specs.Report.{outcome_view}
use Rattle.flagops_shell.specs.declared.outcome.Outcome.{Outcome}
use Rattle.plan_text.specs.Answer.{planned_view}
use Rattle.ramp.specs.Steps.{requests_view, steps_of}
use Rattle.flagops_ramps.specs.Ramp.{IsRampOver}
use Rattle.flagops_ramps.specs.Report.{GivesOne, Told}
use Rattle.flagops_ramps.specs.declared.refusal.RampRefusal.TheVariants.{Ramp}
use Rattle.flagops_ramps.specs.Words.{ramping_view}
use Rattle.flagops_ramps.proofs.Noted.{ramp_said}
use Rattle.flagops_ramps.proofs.Stepped.{planned_report, refused_report, steps_refused, steps_report}
use Rattle.flagops_ramps.proofs.ramping.answer.Goals as goal

pub returns-in-Ok-planned_on-clause-exact : goal.returns-in-Ok-planned_on-clause-exact
returns-in-Ok-planned_on-clause-exact g c =
    let strict = c.args.asked.now.strict in
    let refine = option_map (λ m. m.number) c.args.asked.now.refine in
    let requests = requests_view c.in-Ok.steps.items in
    let made = question_view c.count.new.question in
    let answers = map planned_view c.in-Ok-planned_on.answers.items in
    let plans = rw (c.as_slice-requests.ensures.value, c.factor_of-factor.ensures.value) at c.in-Ok-planned_on.ensures.exact in
    let gives = rw (c.as_slice-requests.ensures.value, c.as_slice.ensures.value) at c.told.ensures.exact in
    let back = rw c.as_slice.ensures.value at c.told.ensures.reads_back in
    let over = planned_report strict refine made requests answers c.told.result plans gives back in
    steps_report strict refine (question_view c.args.question) requests c.told.result (ap steps_of (sym c.bytes.ensures) ∙ c.in-Ok.ensures.exact)
    (subst (λ (q : Question). GivesOne outcome_view c.told.result (IsRampOver strict refine q (Ok requests))) c.count.ensures.kept over)

pub returns-in-Ok-planned_on-clause-parts : goal.returns-in-Ok-planned_on-clause-parts
returns-in-Ok-planned_on-clause-parts g c =
    let requests = requests_view c.in-Ok.steps.items in
    let made = question_view c.count.new.question in
    let answers = map planned_view c.in-Ok-planned_on.answers.items in
    let back = rw c.as_slice.ensures.value at c.told.ensures.reads_back in
    let tells = rw (c.as_slice-requests.ensures.value, c.as_slice.ensures.value) at c.told.ensures.parts in
    ramp_said (ramping_view c.args.asked.now) (question_view c.args.question) made requests answers c.told.result c.count.ensures.kept (ap steps_of (sym c.bytes.ensures) ∙ c.in-Ok.ensures.exact) back tells

pub returns-clause-exact : goal.returns-clause-exact
returns-clause-exact g c =
    let strict = c.args.asked.now.strict in
    let refine = option_map (λ m. m.number) c.args.asked.now.refine in
    let requests = requests_view c.in-Ok.steps.items in
    let made = question_view c.count.new.question in
    let told : Result Outcome Told = Err c.refused-in-Err-planned_on.result in
    let over = refused_report strict refine made requests c.in-Err-planned_on.fault c.refused-in-Err-planned_on.result c.refused-in-Err-planned_on.ensures.refusal (λ other.
    rw (c.as_slice-requests.ensures.value, c.factor_of-factor.ensures.value) at (c.in-Err-planned_on.ensures.exact other)) in
    steps_report strict refine (question_view c.args.question) requests told (ap steps_of (sym c.bytes.ensures) ∙ c.in-Ok.ensures.exact)
    (subst (λ (q : Question). GivesOne outcome_view told (IsRampOver strict refine q (Ok requests))) c.count.ensures.kept over)

pub returns-in-Err-clause-exact : goal.returns-in-Err-clause-exact
returns-in-Err-clause-exact g c =
    steps_refused c.args.asked.now.strict (option_map (λ m. m.number) c.args.asked.now.refine) (question_view c.args.question) c.in-Err.fault c.refused.result (c.refused.ensures.refusal ∙ ap Ramp c.of_steps.ensures)
    (λ other. ap steps_of (sym c.bytes.ensures) ∙ c.in-Err.ensures.exact other)

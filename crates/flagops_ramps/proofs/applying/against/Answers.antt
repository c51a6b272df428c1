use Rattle.std.proofs.Common.{List, Ok, map, subst}
use Rattle.flag_defs.specs.Flags.{flags_view}
use Rattle.flag_defs.specs.Floats.{floats_view}
use Rattle.flagops_shell.specs.Report.{outcome_view}
use Rattle.plan_text.specs.Answer.{planned_view}
use Rattle.plan_text.specs.declared.planned.Planned.{Planned}
use Rattle.flagops_ramps.specs.Apply.{IsStepOver}
use Rattle.flagops_ramps.specs.Report.{GivesOne}
use Rattle.flagops_ramps.specs.Words.{applying_view}
use Rattle.flagops_ramps.proofs.Applied.{answered_so, unanswered}
use Rattle.flagops_ramps.proofs.Noted.{step_said_from}
use Rattle.flagops_ramps.proofs.applying.against.Goals as goal
use Rattle.flagops_ramps.proofs.Firsts.{answers_were_read, made, told_as}
use Rattle.flagops_ramps.specs.Diagnostics.{IsOfAnswers, IsOfStep}
use Rattle.flagops_ramps.specs.Attempts.{answers_file}
use Rattle.flagops_ramps.proofs.Diagnosed.{step_answers}
use Rattle.std.specs.Prelude.{Err, Result}
use Rattle.std.proofs.Common.{refl}
use Rattle.flagops_ramps.specs.Report.{Told}
use Rattle.flagops_shell.specs.declared.outcome.Outcome.{Outcome}

pub returns-in-Ok-clause-exact : goal.returns-in-Ok-clause-exact
returns-in-Ok-clause-exact g c =
    let a = applying_view c.args.asked.now in
    let document = c.args.document.now.bytes.items in
    let flags = flags_view c.args.document.now.flags in
    let marks = floats_view c.args.document.now.flags in
    let gives = subst (λ (xs : List Planned). GivesOne outcome_view c.put.result (IsStepOver a document flags marks (Ok (map planned_view xs)))) c.as_slice.ensures.value c.put.ensures.exact in
    answered_so a document flags marks (g.F.FileSet.holding c.args.files.now) (map planned_view c.in-Ok.answers.items) c.put.result c.in-Ok.ensures.exact gives

pub returns-in-Err-clause-exact : goal.returns-in-Err-clause-exact
returns-in-Err-clause-exact g c =
    unanswered (applying_view c.args.asked.now) c.args.document.now.bytes.items (flags_view c.args.document.now.flags) (floats_view c.args.document.now.flags) (g.F.FileSet.holding c.args.files.now) c.in-Err.told c.in-Err.ensures.exact

pub returns-in-Ok-clause-names : goal.returns-in-Ok-clause-names
returns-in-Ok-clause-names g c =
    let a = applying_view c.args.asked.now in
    made (IsOfStep a) c.put.result (g.F.FileSet.holding c.args.files.now) (λ at. answers_file at a.ramp) (answers_were_read a.ramp (map planned_view c.in-Ok.answers.items) (g.F.FileSet.holding c.args.files.now) c.in-Ok.ensures.exact) c.put.ensures.names

pub returns-in-Err-clause-names : goal.returns-in-Err-clause-names
returns-in-Err-clause-names g c =
    let a = applying_view c.args.asked.now in
    let r : Result Outcome Told = Err c.in-Err.told in
    told_as (IsOfStep a) r (IsOfAnswers a.ramp) (g.F.FileSet.holding c.args.files.now) (λ at. answers_file at a.ramp) c.in-Err.told refl (step_answers a) c.in-Err.ensures.names

pub returns-in-Ok-clause-parts : goal.returns-in-Ok-clause-parts
returns-in-Ok-clause-parts g c =
    let a = applying_view c.args.asked.now in
    let document = c.args.document.now.bytes.items in
    let flags = flags_view c.args.document.now.flags in
    step_said_from a document flags (g.F.FileSet.holding c.args.files.now) (map planned_view c.in-Ok.answers.items) c.put.result c.in-Ok.ensures.exact (rw c.as_slice.ensures.value at c.put.ensures.parts)

use Rattle.std.proofs.Common.{map, Ok, Result}
use Rattle.flagops_shell.specs.declared.outcome.Outcome.{Outcome}
use Rattle.flagops_ramps.specs.Report.{Told}
use Rattle.flagops_ramps.proofs.Noted.{step_said}
use Rattle.flag_defs.specs.Flags.{flags_view}
use Rattle.flag_defs.specs.Floats.{floats_view}
use Rattle.plan_text.specs.Answer.{planned_view}
use Rattle.flagops_ramps.specs.Words.{applying_view}
use Rattle.flagops_ramps.proofs.Applied.{no_step, put_so, refused_so}
use Rattle.flagops_ramps.proofs.applying.put.Goals as goal

pub returns-in-Ok-clause-exact : goal.returns-in-Ok-clause-exact
returns-in-Ok-clause-exact c =
    put_so (applying_view c.args.asked.now) c.args.document.now.bytes.items (flags_view c.args.document.now.flags) (floats_view c.args.document.now.flags) (map planned_view c.args.answers.now) (planned_view c.in-Some.planned.now) c.in-Ok.outcome c.in-Some.ensures
    c.in-Ok.ensures.exact c.in-Ok.ensures.local

pub returns-in-Err-clause-exact : goal.returns-in-Err-clause-exact
returns-in-Err-clause-exact c =
    refused_so (applying_view c.args.asked.now) c.args.document.now.bytes.items (flags_view c.args.document.now.flags) (floats_view c.args.document.now.flags) (map planned_view c.args.answers.now) (planned_view c.in-Some.planned.now) c.in-Err.refused c.of-in-Err.result c.of-in-Err.ensures.refusal
    c.in-Some.ensures c.in-Err.ensures.exact

pub returns-in_default-clause-exact : goal.returns-in_default-clause-exact
returns-in_default-clause-exact c = λ no_want.
    no_step (applying_view c.args.asked.now) c.args.document.now.bytes.items (flags_view c.args.document.now.flags) (floats_view c.args.document.now.flags) (map planned_view c.args.answers.now) c.in_default.ensures

pub returns-in-Ok-clause-parts : goal.returns-in-Ok-clause-parts
returns-in-Ok-clause-parts c =
    let r : Result Outcome Told = Ok c.in-Ok.outcome in
    step_said (applying_view c.args.asked.now) c.args.document.now.bytes.items (flags_view c.args.document.now.flags) (map planned_view c.args.answers.now) (planned_view c.in-Some.planned.now) r c.in-Some.ensures c.in-Ok.ensures.parts

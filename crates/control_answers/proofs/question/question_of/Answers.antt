use Rattle.std.proofs.Common.{◌≡◌, ◌∙◌, Err, ap, sym}
use Rattle.std.proofs.lemmas.Result.{err_from_is_err_and}
use Rattle.flag_defs.specs.Flags.{flags_view}
use Rattle.control_answers.specs.Refusal.{of_rollout}
use Rattle.control_answers.specs.Target.{target_of}
use Rattle.control_answers.specs.declared.refusal.ControlRefusal.TheVariants.{WantOfMemory}
use Rattle.control_answers.proofs.Turns.{no_memory, no_question}
use Rattle.control_answers.proofs.question.question_of.Goals as goal

pub returns-in_err-request-clause-exact : goal.returns-in_err-request-clause-exact
returns-in_err-request-clause-exact c =
    let r = c.from_residual.result in
    let p = err_from_is_err_and r c.from_residual.ensures.1 in
    let is : r ≡ Err WantOfMemory = p.1 ∙ ap Err p.2 in
    no_memory (flags_view c.args.flags.now) c.args.request.items r is

pub returns-in_err-target-clause-exact : goal.returns-in_err-target-clause-exact
returns-in_err-target-clause-exact c =
    let f = c.in_err-target.field-0.0 in
    let r = c.from_residual-in_err-target.result in
    let p = err_from_is_err_and r c.from_residual-in_err-target.ensures.1 in
    let is : r ≡ Err (of_rollout f) = p.1 ∙ ap Err p.2 in
    no_question (flags_view c.args.flags.now) c.args.request.items c.in_ok-request.request f r is c.in_ok-request.ensures.bytes c.in_err-target.ensures.exact

pub returns-clause-exact : goal.returns-clause-exact
returns-clause-exact c = (c.in_ok-request.ensures.bytes, ap (target_of (flags_view c.args.flags.now)) (sym c.in_ok-request.ensures.bytes) ∙ c.in_ok-target.ensures.exact)

use Rattle.std.proofs.Common.{◌≡◌, ◌≢◌, ℕ, List, Result, true, is_some, Ok, map, sym, ap, ◌∙◌}
use Rattle.plan_text.specs.Answer.{planned_view}
use Rattle.plan_text.specs.declared.fault.PlanFileFault.{PlanFileFault}
use Rattle.plan_text.specs.declared.fault.PlanFileFault.TheVariants.{WantOfMemory}
use Rattle.flagops_ramps.specs.Doubts.{beside}
use Rattle.flagops_ramps.specs.Ramp.{report_file}
use Rattle.flagops_ramps.specs.Refusal.{is_want}
use Rattle.flagops_ramps.specs.Report.{Came}
use Rattle.flagops_ramps.specs.declared.refusal.RampRefusal.TheVariants.{Print}
use Rattle.flagops_ramps.proofs.ramping.printed.Goals as goal

pub returns-in-Ok-clause-exact : goal.returns-in-Ok-clause-exact
returns-in-Ok-clause-exact c =
    let told = is_some c.args.remark in
    let made : ℕ → Came = λ s. Ok (record { text = c.in-Ok.text.items; status = s; is_told = told }) in
    let noted : Result (List ℕ) PlanFileFault → Came = λ f. beside (Ok told) (report_file (map planned_view c.args.answers.now) f) in
    ap noted c.in-Ok.ensures.exact ∙ ap made (sym c.status_of.ensures)

pub returns-in-Err-clause-exact : goal.returns-in-Err-clause-exact
returns-in-Err-clause-exact c = λ no_want.
    let other : c.in-Err.fault ≢ WantOfMemory = λ want. let one : is_want (Print c.in-Err.fault) ≡ true = ap (λ x. is_want (Print x)) want in cc in
    let noted : Result (List ℕ) PlanFileFault → Came = λ f. beside (Ok (is_some c.args.remark)) (report_file (map planned_view c.args.answers.now) f) in
    ap noted (c.in-Err.ensures.exact other)

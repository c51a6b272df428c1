use Rattle.std.proofs.Common.{◌++◌, IfOk, List, is_some, subst, sym}
use Rattle.bucket_core.specs.Rule.{total_weight}
use Rattle.flag_defs.specs.Flags.{flags_view}
use Rattle.flag_defs.specs.Floats.{Marks, floats_view}
use Rattle.flagops_rollouts.specs.Apply.{IsLocalReport, document_line, told_report}
use Rattle.flagops_rollouts.specs.Beside.{Part, Tells, part_if}
use Rattle.flagops_rollouts.specs.Finer.{finer_part, times_at}
use Rattle.flagops_rollouts.specs.Omitted.{TellsOmitted, is_omitting}
use Rattle.flagops_rollouts.specs.Refusal.{GivesUnlessWant}
use Rattle.flagops_rollouts.specs.Remarks.{applied_parts}
use Rattle.flagops_rollouts.proofs.Parts.{tells_result}
use Rattle.flagops_rollouts.proofs.Said.{applied_exact, applied_local}
use Rattle.flagops_rollouts.proofs.applying.applied.Goals as goal
use Rattle.flagops_shell.specs.Outcomes.{beside, done}
use Rattle.flagops_shell.specs.Report.{outcome_view}
use Rattle.flagops_shell.specs.declared.outcome.Outcome.{Outcome}
use Rattle.plan_text.specs.Answer.{planned_view}
use Rattle.plan_text.specs.declared.planned.Planned.{Planned}
use Rattle.rollout.specs.Change.{IsLocal}
use Rattle.transport_core.specs.Certificate.{certificate_view}

pub returns-in_ok-remark-in-Ok-clause-exact : goal.returns-in_ok-remark-in-Ok-clause-exact
returns-in_ok-remark-in-Ok-clause-exact c =
    let floats = c.args.floats in
    let document = c.args.document.now.bytes.items in
    let flags = flags_view c.args.document.now.flags in
    let marks = floats_view c.args.document.now.flags in
    let key = c.args.key.now in
    let site = c.args.site in
    let strict = c.args.strict in
    let told = applied_exact floats document flags marks key site strict c.in-Emit.rule (certificate_view c.in-Emit.field-1) (flags_view c.in-Ok.changed) (is_some c.in_ok-remark-in-Ok.remark) c.printed.result c.in-Ok.ensures.exact c.in_ok-remark-in-Ok.ensures.exact
    (subst (λ (ms : Marks). GivesUnlessWant outcome_view c.printed.result (beside (is_some c.in_ok-remark-in-Ok.remark) (done (document_line floats (flags_view c.in-Ok.changed) ms)))) c.in-Ok.ensures.floats c.printed.ensures.exact) in
    subst (λ (p : Planned). GivesUnlessWant outcome_view c.printed.result (told_report floats document flags marks key site strict (planned_view p))) (sym c.in-Emit.is) told

pub returns-in_ok-remark-in-Ok-clause-local : goal.returns-in_ok-remark-in-Ok-clause-local
returns-in_ok-remark-in-Ok-clause-local c =
    let floats = c.args.floats in
    let flags = flags_view c.args.document.now.flags in
    let marks = floats_view c.args.document.now.flags in
    let key = c.args.key.now in
    let site = c.args.site in
    let rule = c.in-Emit.rule in
    let local : IsLocal flags key site rule (flags_view c.in-Ok.changed) = record { changed = c.in-Ok.ensures.changed; others = c.in-Ok.ensures.others; resolutions = c.in-Ok.ensures.resolutions } in
    let told = applied_local floats flags (flags_view c.in-Ok.changed) marks (floats_view c.in-Ok.changed) key site rule (certificate_view c.in-Emit.field-1) (is_some c.in_ok-remark-in-Ok.remark) c.printed.result local c.in-Ok.ensures.floats c.printed.ensures.exact in
    subst (λ (p : Planned). IfOk c.printed.result (λ o. IsLocalReport floats flags marks key site (planned_view p) (outcome_view o))) (sym c.in-Emit.is) told

pub returns-in_ok-remark-in-Ok-clause-parts : goal.returns-in_ok-remark-in-Ok-clause-parts
returns-in_ok-remark-in-Ok-clause-parts c =
    let path = c.args.path.now in
    let floats = c.args.floats in
    let document = c.args.document.now.bytes.items in
    let flags = flags_view c.args.document.now.flags in
    let key = c.args.key.now in
    let site = c.args.site in
    let points = total_weight c.in-Emit.rule in
    let omitted : List Part = part_if (is_omitting floats document flags) (TellsOmitted path flags) in
    let told = tells_result (λ (o : Outcome). o.remark) (omitted ++ finer_part path (times_at flags key site points) points) c.in_ok-remark-in-Ok.remark c.printed.result c.in_ok-remark-in-Ok.ensures.parts c.printed.ensures.remark in
    subst (λ (p : Planned). IfOk c.printed.result (λ o. Tells (applied_parts floats path document flags key site (planned_view p)) o.remark)) (sym c.in-Emit.is) told

pub returns-in-NoneExists-clause-parts : goal.returns-in-NoneExists-clause-parts
returns-in-NoneExists-clause-parts c =
    subst (λ (p : Planned). IfOk c.none.result (λ o. Tells (applied_parts c.args.floats c.args.path.now c.args.document.now.bytes.items (flags_view c.args.document.now.flags) c.args.key.now c.args.site (planned_view p)) o.remark)) (sym c.in-NoneExists.is) c.none.ensures.remark

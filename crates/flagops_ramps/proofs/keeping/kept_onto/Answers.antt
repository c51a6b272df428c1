use Rattle.std.proofs.Common.{◌∙◌, Err, Ok, Some, option_map, sym}
use Rattle.flag_defs.specs.Flags.{flags_view}
use Rattle.plan_text.specs.Answer.{planned_view}
use Rattle.flagops_ramps.specs.Keep.{is_left}
use Rattle.flagops_ramps.proofs.Kept.{at_place, onto_left, onto_other, onto_refused}
use Rattle.flagops_ramps.proofs.keeping.kept_onto.Goals as goal

pub returns-then-not-stands-clause-exact : goal.returns-then-not-stands-clause-exact
returns-then-not-stands-clause-exact c = λ no_want.
    onto_other c.args.asked.now.answered.rollout.floats c.args.question.now.document.items (flags_view c.args.question.now.flags) c.args.request.now c.args.rule.now (is_left (flags_view c.args.question.now.flags) c.args.request.now (option_map (λ p. planned_view p.now) c.args.before))
    (sym c.if-not-stands.true ∙ c.in-Ok.ensures)

pub returns-in-Ok-document_with_rule-clause-exact : goal.returns-in-Ok-document_with_rule-clause-exact
returns-in-Ok-document_with_rule-clause-exact c =
    let q = c.args.question.now in
    let flags = flags_view q.flags in
    let asked = c.args.request.now in
    let text = c.in-Ok-document_with_rule.text in
    onto_left c.args.asked.now.answered.rollout.floats q.document.items flags asked c.args.rule.now (is_left flags asked (option_map (λ p. planned_view p.now) c.args.before)) text (sym c.if-not-stands.false ∙ c.in-Ok.ensures)
    (at_place c.args.asked.now.answered.rollout.floats q.document.items _ _ flags _ asked c.args.rule.now (Ok (Some text.items)) c.as_slice-bytes.ensures.value c.flag-key.ensures c.site-site.ensures c.in-Ok-document_with_rule.ensures.exact)

pub returns-in-Err-document_with_rule-clause-exact : goal.returns-in-Err-document_with_rule-clause-exact
returns-in-Err-document_with_rule-clause-exact c = λ no_want.
    let q = c.args.question.now in
    let flags = flags_view q.flags in
    let asked = c.args.request.now in
    let refused = c.in-Err-document_with_rule.refused in
    onto_refused c.args.asked.now.answered.rollout.floats q.document.items flags asked c.args.rule.now (is_left flags asked (option_map (λ p. planned_view p.now) c.args.before)) refused c.of-in-Err-document_with_rule.result c.of-in-Err-document_with_rule.ensures.refusal (sym c.if-not-stands.false ∙ c.in-Ok.ensures)
    (λ wanted. at_place c.args.asked.now.answered.rollout.floats q.document.items _ _ flags _ asked c.args.rule.now (Err refused.refusal) c.as_slice-bytes.ensures.value c.flag-key.ensures c.site-site.ensures (c.in-Err-document_with_rule.ensures.exact wanted)) no_want

-- Each test is one of those that the answer has to pass.
use Rattle.std.proofs.Common.{◌≡◌, true, sym, ◌∙◌, subst, rules}
use Rattle.std.specs.Map.{keys_of}
use Rattle.std.proofs.lemmas.Bool.{OnTrue_from}
use Rattle.flag_text.proofs.Bools.{left, right}
use Rattle.bucket_core.specs.Canonical.{IsCanonical}
use Rattle.bucket_core.specs.Rule.{IsRuleTotal}
use Rattle.transport_core.specs.Certificate.{certificate_view}
use Rattle.transport_core.specs.Groups.{group_cmp}
use Rattle.transport_core.specs.WrittenCertificate.{has_whole_numbers}
use Rattle.plan_text.specs.PlanFile.{rises}
use Rattle.plan_text.proofs.ReadBack.{emit_by_tests}
use Rattle.plan_text.proofs.WholeAnswers.{emit_whole}
use Rattle.plan_text.proofs.plain.is_sound.Goals as goal

pub returns-clause-whole : goal.returns-clause-whole
returns-clause-whole c =
    let dual = certificate_view c.args.certificate.now in
    let total = subst IsRuleTotal c.total-total.ensures.value c.total-total.ensures.allowed in
    let kept : has_whole_numbers dual ≡ true = search rules in
    OnTrue_from c.is_ordered.result _
    (λ _. emit_whole c.args.rule.now dual total kept)

pub returns-clause-reads : goal.returns-clause-reads
returns-clause-reads c =
    let rule = c.args.rule.now in
    let dual = certificate_view c.args.certificate.now in
    let groups = rises group_cmp (keys_of dual.alpha) in
    let total = subst IsRuleTotal c.total-total.ensures.value c.total-total.ensures.allowed in
    let kept : has_whole_numbers dual ≡ true = search rules in
    let canonical : IsCanonical rule = search rules in
    let whole = emit_whole rule dual total kept in
    OnTrue_from c.is_ordered.result _
    (λ passes.
    let both = sym c.is_ordered.ensures ∙ passes in
    λ fits. emit_by_tests rule dual whole (left groups _ both) (right groups _ both) canonical fits)

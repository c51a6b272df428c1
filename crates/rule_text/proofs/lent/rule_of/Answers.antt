-- entries by the places of their names are the entries
use Rattle.std.proofs.Common.{◌≡◌, Err, sym, ap, ◌∙◌, rules}
use Rattle.bucket_core.specs.Reading.{rule_of_entries}
use Rattle.rule_text.specs.Lent.{lent_view}
use Rattle.rule_text.specs.Reading.{of_rule}
use Rattle.rule_text.specs.declared.fault.RuleTextFault.TheVariants.{Rule}
use Rattle.rule_text.proofs.Found.{refused_entries}
use Rattle.rule_text.proofs.lent.rule_of.Goals as goal

pub returns-in_err-rule_total-clause-exact : goal.returns-in_err-rule_total-clause-exact
returns-in_err-rule_total-clause-exact c =
    let is : c.from_residual.result ≡ Err (Rule c.in_err-rule_total.field-0.0) = search rules in
    refused_entries c.from_residual.result c.in_err-rule_total.field-0.0 (lent_view c.args.entries.items) is (λ _. ap (λ es. rule_of_entries (lent_view es)) (sym c.as_slice.ensures.value) ∙ c.in_err-rule_total.ensures.refused)

pub returns-in_err-of_places-clause-exact : goal.returns-in_err-of_places-clause-exact
returns-in_err-of_places-clause-exact c =
    let is : c.from_residual-in_err-of_places.result ≡ Err (Rule c.in_err-of_places.field-0.0) = search rules in
    refused_entries c.from_residual-in_err-of_places.result c.in_err-of_places.field-0.0 (lent_view c.args.entries.items) is (λ other. ap rule_of_entries (sym c.in_ok-names.ensures.same) ∙ c.in_err-of_places.ensures.exact other)

pub returns-clause-exact : goal.returns-clause-exact
returns-clause-exact c =
    ap (λ es. of_rule (rule_of_entries es)) (sym c.in_ok-names.ensures.same) ∙ ap of_rule c.in_ok-of_places.ensures.exact

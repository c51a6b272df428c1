use Rattle.std.proofs.Common.{sym, ap, ◌∙◌, subst, rules}
use Rattle.rule_text.specs.Texts.{AreTexts, texts_view}
use Rattle.flagops_files.specs.Loading.{max_text}
use Rattle.flagops_shell.specs.Outcomes.{◌>>=◌}
use Rattle.flagops_shell.specs.Report.{outcome_view}
use Rattle.flagops_commands.specs.Price.{keys_of, weighed_bytes, weighed_keys}
use Rattle.flagops_commands.proofs.Keys.{keys_read}
use Rattle.flagops_commands.proofs.rules.price.weigh_file.Goals as goal
use Rattle.flagops_commands.specs.Refusal.{GivesUnlessWant}

pub returns-in-Ok-Some-clause-exact : goal.returns-in-Ok-Some-clause-exact
unfolding weighed_bytes
returns-in-Ok-Some-clause-exact g c =
    let bytes = c.as_slice-bytes.result.now in
    let keys = texts_view c.in-Ok-Some.keys.items in
    let are : AreTexts bytes max_text keys = search rules in
    let weigh = weighed_keys c.args.json c.args.old.now c.args.new.now c.args.prices.now in
    let read_as = ap keys_of (sym c.as_slice-bytes.ensures.value) ∙ keys_read bytes keys are in
    subst (λ r. GivesUnlessWant outcome_view c.weigh_keys.result (r >>= weigh)) (sym read_as) c.weigh_keys.ensures.exact

pub returns-in-Ok-None-clause-exact : goal.returns-in-Ok-None-clause-exact
returns-in-Ok-None-clause-exact g c =
    let weigh = weighed_bytes c.args.json c.args.old.now c.args.new.now c.args.prices.now in
    subst (λ b. GivesUnlessWant outcome_view c.refuse_keys.result (weigh b)) c.as_slice-bytes.ensures.value (c.refuse_keys.ensures.exact c.args.json c.args.old.now c.args.new.now c.args.prices.now)

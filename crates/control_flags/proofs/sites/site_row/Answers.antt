use Rattle.std.proofs.Common.{◌≡◌, rules, string_bytes}
use Rattle.std.proofs.lemmas.Result.{IfOk-weaker}
use Rattle.logic_ast.specs.Expr.{view}
use Rattle.control_flags.specs.Joined.{number_or_null, quoted, text_or_null}
use Rattle.control_flags.specs.Sites.{recorded_on, rule_at, rule_with_total, site_text}
use Rattle.control_flags.proofs.sites.site_row.Goals as goal

pub returns : goal.returns
unfolding site_text
returns c =
    let page = c.args.page.now in
    let by : string_bytes c.in_ok-by.by ≡ text_or_null page.by = search rules in
    let flag : string_bytes c.in_ok-flag.flag ≡ quoted page.flag = search rules in
    let site : c.page.inside.site ≡ page.site = search rules in
    let rule : string_bytes c.in_ok-rule.rule ≡ rule_with_total (rule_at (view c.args.targeting.now) page.site) = search rules in
    let inputs : string_bytes c.in_ok-inputs.inputs ≡ number_or_null (recorded_on c.args.recorded.now.entries page) = search rules in
    IfOk-weaker c.format.result _ _ (λ s e. rw (by, flag, site, rule, inputs) at e) c.format.ensures.ok

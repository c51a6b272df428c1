use Rattle.std.proofs.Common.{rules, ◌≡◌, string_bytes}
use Rattle.std.proofs.lemmas.Result.{IfOk-weaker}
use Rattle.flagops_compare.specs.Printed.{quoted}
use Rattle.flagops_compare.proofs.objects.page_opening.Goals as goal

pub returns : goal.returns
returns c =
    let flag : string_bytes c.in_ok-flag.flag ≡ quoted c.args.page.now.flag = search rules in
    let site : c.page.inside.site ≡ c.args.page.now.site = search rules in
    IfOk-weaker c.format.result _ _ (λ s e. rw (flag, site) at e) c.format.ensures.ok

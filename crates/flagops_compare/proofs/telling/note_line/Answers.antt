use Rattle.std.proofs.Common.{rules, ◌≡◌, string_bytes}
use Rattle.std.proofs.lemmas.Result.{IfOk-weaker}
use Rattle.flagops_compare.specs.Printed.{quoted}
use Rattle.flagops_compare.proofs.telling.note_line.Goals as goal

pub returns : goal.returns
returns c =
    let path : string_bytes c.in_ok-path.path ≡ quoted c.args.path.now = search rules in
    let flag : string_bytes c.in_ok-flag.flag ≡ quoted c.args.page.now.flag = search rules in
    let site : c.page.inside.site ≡ c.args.page.now.site = search rules in
    IfOk-weaker c.format.result _ _ (λ s e. rw (path, flag, site, c.reason_words-words.ensures, c.reason_name-name.ensures) at e) c.format.ensures.ok

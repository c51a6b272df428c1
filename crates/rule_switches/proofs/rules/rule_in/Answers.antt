use Rattle.std.proofs.Common.{rules, ◌≡◌, ◌∙◌, true, Ok, sym}
use Rattle.std.proofs.lemmas.Bool.{not-false}
use Rattle.book_core.specs.Page.{page_eq}
use Rattle.book_core.specs.Site.{page_at}
use Rattle.bucket_core.specs.Reading.{rule_of_entries}
use Rattle.flag_text.specs.Outcome.{GivesUnless}
use Rattle.logic_ast.specs.Expr.{view}
use Rattle.logic_ast.specs.Site.{site_view}
use Rattle.logic_ast.specs.Sites.{parts_at}
use Rattle.rule_switches.specs.Rules.{by_weight}
use Rattle.rule_switches.specs.declared.fault.NoRule.TheVariants.{WantOfMemory}
use Rattle.rule_switches.proofs.PagePlaced.{in_turn}
use Rattle.rule_switches.proofs.rules.rule_in.Goals as goal

pub returns : goal.returns
returns c =
    let page = c.args.page.now in
    let targeting = view c.args.targeting.now in
    let at : page_at page.flag page.site targeting ≡ Ok c.in_ok-other.other = search rules in
    let same : page_eq page c.in_ok-other.other ≡ true = not-false (page_eq page c.in_ok-other.other) (sym c.ne.ensures ∙ c.if-ne.false) in
    let are : parts_at page.site targeting ≡ Ok (site_view c.in_ok-entries.field-0) = search rules in
    let gives : GivesUnless WantOfMemory (λ e. e) c.rule_of.result (by_weight (rule_of_entries (site_view c.in_ok-entries.field-0).1)) = search rules in
    in_turn page c.in_ok-other.other targeting (site_view c.in_ok-entries.field-0) c.rule_of.result at same are gives

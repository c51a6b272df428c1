-- The rule of a targeting at the site of a page.
use Rattle.std.proofs.Common.{◌≡◌, ◌≢◌, true, Result, Ok, Err, IfOk, sym, ap, ◌∙◌}
use Rattle.book_core.specs.Page.{PageName, page_eq}
use Rattle.book_core.specs.Site.{page_at}
use Rattle.bucket_core.specs.Reading.{rule_of_entries}
use Rattle.bucket_core.specs.Rule.{Entries}
use Rattle.flag_text.specs.Outcome.{GivesUnless}
use Rattle.logic_ast.specs.Expression.{By, Expression}
use Rattle.logic_ast.specs.Sites.{parts_at}
use Rattle.rule_switches.specs.Rules.{by_weight, none, rule_in, rules_of, rules_view}
use Rattle.rule_switches.specs.declared.page_edit.Side.TheVariants.{Old, New}
use Rattle.rule_switches.specs.declared.fault.NoRule.{NoRule}
use Rattle.rule_switches.specs.declared.fault.NoRule.TheVariants.{WantOfMemory}
use Rattle.rule_switches.specs.declared.rules.Rules as program

-- the site is there, it is the page's, and its buckets are literal: then their weights tell
pub in_turn : (page other : PageName) (targeting : Expression) (parts : By × Entries) (r : Result Entries NoRule) → page_at page.flag page.site targeting ≡ Ok other → page_eq page other ≡ true → parts_at page.site targeting ≡ Ok parts
    → GivesUnless WantOfMemory (λ e. e) r (by_weight (rule_of_entries parts.1)) → GivesUnless WantOfMemory (λ e. e) r (rule_in page targeting)
in_turn page other targeting parts r at same are gives = rw (at, same, are) gives

-- the first document, or the second, has no rule
pub lacks_old : {E : Type 0} (r : Result program.Rules E) (reason : NoRule) (a b : Result Entries NoRule) → (reason ≢ WantOfMemory → a ≡ Err reason) → IfOk r (λ x. rules_view x ≡ none Old reason) → IfOk r (λ x. reason ≢ WantOfMemory)
    → IfOk r (λ x. rules_view x ≡ rules_of a b)
lacks_old (Ok x) reason a b gives is told = is ∙ sym (ap (λ (k : Result Entries NoRule). rules_of k b) (gives told))
lacks_old (Err e) reason a b gives is told = tt

pub lacks_new : {E : Type 0} (r : Result program.Rules E) (reason : NoRule) (before : Entries) (a b : Result Entries NoRule) → a ≡ Ok before → (reason ≢ WantOfMemory → b ≡ Err reason) → IfOk r (λ x. rules_view x ≡ none New reason)
    → IfOk r (λ x. reason ≢ WantOfMemory) → IfOk r (λ x. rules_view x ≡ rules_of a b)
lacks_new (Ok x) reason before a b has gives is told =
    is ∙ sym (ap (λ (k : Result Entries NoRule). rules_of k b) has ∙ ap (λ (k : Result Entries NoRule). rules_of (Ok before) k) (gives told))
lacks_new (Err e) reason before a b has gives is told = tt

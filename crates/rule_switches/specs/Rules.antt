-- The rules that two documents have at the site of a page.
use Rattle.std.specs.Prelude.{Option, Some, None, Result, Ok, Err, if◌then◌else◌}
use Rattle.std.specs.Map.{lookup}
use Rattle.std.specs.Str.{bytes_eq}
use Rattle.book_core.specs.Page.{PageName, page_eq}
use Rattle.book_core.specs.Site.{page_at}
use Rattle.bucket_core.specs.Reading.{rule_of_entries}
use Rattle.bucket_core.specs.Rule.{Entries}
use Rattle.bucket_core.specs.declared.fault.RuleFault.{RuleFault}
use Rattle.flag_defs.specs.Document.{Definitions}
use Rattle.flag_defs.specs.Flag.{targeting_in}
use Rattle.logic_ast.specs.Expression.{Expression}
use Rattle.logic_ast.specs.Sites.{parts_at}
use Rattle.logic_ast.specs.declared.fault.LogicFault.{LogicFault}
use Rattle.rule_switches.specs.Fault.{of_logic, of_rule}
use Rattle.rule_switches.specs.declared.page_edit.Side.{Side}
use Rattle.rule_switches.specs.declared.page_edit.Side.TheVariants.{Old, New}
use Rattle.rule_switches.specs.declared.fault.NoRule.{NoRule}
use Rattle.rule_switches.specs.declared.fault.NoRule.TheVariants.{NoFlag, NoSite, OtherExpression}
use Rattle.rule_switches.specs.declared.rules.Rules as program
use Rattle.rule_switches.specs.declared.rules.Rules.TheVariants as code

-- what comes next, where there is no reason against it
abbrev pub and_then : {A B : Type 0} → Result A NoRule → (A → Result B NoRule) → Result B NoRule
and_then (Ok x) f = f x
and_then (Err e) f = Err e

abbrev pub or_none : {A : Type 0} → NoRule → Option A → Result A NoRule
or_none e None = Err e
or_none e (Some x) = Ok x

abbrev pub by_logic : {A : Type 0} → Result A LogicFault → Result A NoRule
by_logic (Ok x) = Ok x
by_logic (Err e) = Err (of_logic e)

abbrev pub by_weight : Result Entries RuleFault → Result Entries NoRule
by_weight (Ok r) = Ok r
by_weight (Err e) = Err (of_rule e)

-- the site is that of the page: it has the same bucketing expression
abbrev pub same_page : PageName → PageName → Result (Unit {0}) NoRule
same_page page other = if page_eq page other then Ok tt else Err OtherExpression

-- the literal entries of a page's site in a targeting, where they are a rule
abbrev pub rule_in : PageName → Expression → Result Entries NoRule
rule_in page targeting =
    and_then (by_logic (page_at page.flag page.site targeting)) (λ other.
    and_then (same_page page other) (λ _.
    and_then (by_logic (parts_at page.site targeting)) (λ parts. by_weight (rule_of_entries parts.1))))

-- the rule at a page's site in a document, or the first reason why there is none: the flag, the site, its bucketing expression, its
-- buckets, its weight
unfoldable pub rule_on : Definitions → PageName → Result Entries NoRule
rule_on flags page =
    and_then (or_none NoFlag (lookup (bytes_eq page.flag) flags)) (λ flag.
    and_then (or_none NoSite (targeting_in flag)) (λ targeting. rule_in page targeting))

-- the rules of both documents, or the first of them that has none, and why
pub data Rules : Type 0 where
  both : Entries → Entries → Rules
  none : Side → NoRule → Rules

abbrev pub rules_of : Result Entries NoRule → Result Entries NoRule → Rules
rules_of (Err e) after = none Old e
rules_of (Ok before) (Err e) = none New e
rules_of (Ok before) (Ok after) = both before after

abbrev pub rules_on : Definitions → Definitions → PageName → Rules
rules_on old new page = rules_of (rule_on old page) (rule_on new page)

-- of the program
abbrev pub rules_view : program.Rules → Rules
rules_view (code.Both before after) = both before after
rules_view (code.None side reason) = none side reason

-- The words and the names for why a page has no rules to compare.
use Rattle.std.specs.Prelude.{ℕ, List, codes}
use Rattle.rule_switches.specs.declared.page_edit.Side.{Side}
use Rattle.rule_switches.specs.declared.page_edit.Side.TheVariants.{Old, New}
use Rattle.rule_switches.specs.declared.fault.NoRule.{NoRule}
use Rattle.rule_switches.specs.declared.fault.NoRule.TheVariants.{WantOfMemory, NoFlag, NoSite, OtherExpression, Computed, NoWeight, TooHeavy}

abbrev pub side_name : Side → List ℕ
side_name Old = codes "old"
side_name New = codes "new"

-- the name of the variant
abbrev pub reason_name : NoRule → List ℕ
reason_name WantOfMemory = codes "WantOfMemory"
reason_name NoFlag = codes "NoFlag"
reason_name NoSite = codes "NoSite"
reason_name OtherExpression = codes "OtherExpression"
reason_name Computed = codes "Computed"
reason_name NoWeight = codes "NoWeight"
reason_name TooHeavy = codes "TooHeavy"

-- what the document has there
abbrev pub reason_words : NoRule → List ℕ
reason_words WantOfMemory = codes "out of memory"
reason_words NoFlag = codes "it has no such flag"
reason_words NoSite = codes "it has no such fractional operation"
reason_words OtherExpression = codes "it has another bucketing expression there"
reason_words Computed = codes "it has a computed bucket there"
reason_words NoWeight = codes "its weights there sum to 0"
reason_words TooHeavy = codes "its weights there sum to more than 2147483647"

-- Which rule the bytes of a text stand for: that of its tree.
use Rattle.std.specs.Prelude.{◌≡◌, ℕ, Bool, true, false, List, Result, Ok, Err}
use Rattle.flag_text.specs.Shape.{Shape}
use Rattle.flag_text.specs.Reading.{tree_of}
use Rattle.flag_text.specs.declared.fault.TextFault.{TextFault}
use Rattle.flag_text.specs.declared.fault.TextFault.TheVariants as texts
use Rattle.bucket_core.specs.Reading.{rule_of}
use Rattle.bucket_core.specs.Rule.{Entries}
use Rattle.bucket_core.specs.declared.fault.RuleFault.{RuleFault}
use Rattle.bucket_core.specs.declared.fault.RuleFault.TheVariants as rules
use Rattle.rule_text.specs.declared.fault.RuleTextFault.{RuleTextFault}
use Rattle.rule_text.specs.declared.fault.RuleTextFault.TheVariants.{Text, Rule}

-- a fault of the rule, as one of the text
abbrev pub of_rule : Result Entries RuleFault → Result Entries RuleTextFault
of_rule (Ok r) = Ok r
of_rule (Err e) = Err (Rule e)

-- the rule of a tree that was read, or the fault of the text
abbrev pub of_tree : Result Shape TextFault → Result Entries RuleTextFault
of_tree (Ok t) = of_rule (rule_of t)
of_tree (Err e) = Err (Text e)

-- the rule of the tree of the bytes; its refusals in their order: those of the text, those of the rule
abbrev pub rule_of_text : List ℕ → ℕ → Result Entries RuleTextFault
rule_of_text bytes limit = of_tree (tree_of bytes limit)

-- memory ran out, for the text or for the rule
abbrev pub is_want : RuleTextFault → Bool
is_want (Text texts.WantOfMemory) = true
is_want (Rule rules.WantOfMemory) = true
is_want e = false

-- What was returned is what the definition gives, unless memory ran out.
abbrev pub GivesUnlessShort : Result Entries RuleTextFault → Result Entries RuleTextFault → Type 0
GivesUnlessShort (Ok r) wanted = wanted ≡ Ok r
GivesUnlessShort (Err e) wanted = is_want e ≡ false → wanted ≡ Err e

-- What a refusal of a lower call becomes.
use Rattle.bucket_core.specs.declared.fault.RuleFault.{RuleFault}
use Rattle.bucket_core.specs.declared.fault.RuleFault.TheVariants as rule
use Rattle.logic_ast.specs.declared.fault.LogicFault.{LogicFault}
use Rattle.logic_ast.specs.declared.fault.LogicFault.TheVariants as logic
use Rattle.rule_switches.specs.declared.fault.NoRule.{NoRule}
use Rattle.rule_switches.specs.declared.fault.NoRule.TheVariants.{WantOfMemory, NoSite, Computed, NoWeight, TooHeavy}

-- of what is told of a site of an expression
abbrev pub of_logic : LogicFault → NoRule
of_logic logic.WantOfMemory = WantOfMemory
of_logic logic.UnknownOperator = NoSite
of_logic logic.BadArguments = NoSite
of_logic logic.TooBig = NoSite
of_logic logic.NoSite = NoSite
of_logic logic.Computed = Computed

-- of what is told of entries
abbrev pub of_rule : RuleFault → NoRule
of_rule rule.WantOfMemory = WantOfMemory
of_rule rule.NoWeight = NoWeight
of_rule rule.TooHeavy = TooHeavy
of_rule rule.BadRule = Computed

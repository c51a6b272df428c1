-- The number and the name that a refusal of a plan file is printed with.
use Rattle.std.specs.Prelude.{ℕ, List, codes}
use Rattle.flag_text.specs.declared.fault.TextFault.{TextFault}
use Rattle.flag_text.specs.declared.fault.TextFault.TheVariants as text_fault
use Rattle.plan_text.specs.declared.fault.PlanFileFault.{PlanFileFault}
use Rattle.plan_text.specs.declared.fault.PlanFileFault.TheVariants.{WantOfMemory, BadPlan, TooLarge}

-- want of memory is 0
abbrev pub number_of : PlanFileFault → ℕ
number_of WantOfMemory = 0
number_of BadPlan = 1
number_of TooLarge = 2

-- the name of the variant
abbrev pub name_of : PlanFileFault → List ℕ
name_of WantOfMemory = codes "WantOfMemory"
name_of BadPlan = codes "BadPlan"
name_of TooLarge = codes "TooLarge"

-- A text that is no tree is no plan, unless it is too large.
abbrev pub of_text : TextFault → PlanFileFault
of_text text_fault.WantOfMemory = WantOfMemory
of_text text_fault.NotJson = BadPlan
of_text text_fault.NotWhole = BadPlan
of_text text_fault.TooLarge = TooLarge
of_text text_fault.TooDeep = BadPlan

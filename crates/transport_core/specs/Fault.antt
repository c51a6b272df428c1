-- The number and the name that a refusal of a plan is printed with.
use Rattle.std.specs.Prelude.{ℕ, List, codes}
use Rattle.transport_core.specs.declared.fault.CheckFault.{CheckFault}
use Rattle.transport_core.specs.declared.fault.CheckFault.TheVariants.{WantOfMemory, Weight, Totals, Forbidden, Slack, Sum, Cost, NotDeficient, Groups}

abbrev pub number_of : CheckFault → ℕ
number_of WantOfMemory = 0
number_of Weight = 1
number_of Totals = 2
number_of (Forbidden p) = 3
number_of (Slack name count variant) = 4
number_of Sum = 5
number_of Cost = 6
number_of NotDeficient = 7
number_of Groups = 8

abbrev pub name_of : CheckFault → List ℕ
name_of WantOfMemory = codes "WantOfMemory"
name_of Weight = codes "Weight"
name_of Totals = codes "Totals"
name_of (Forbidden p) = codes "Forbidden"
name_of (Slack name count variant) = codes "Slack"
name_of Sum = codes "Sum"
name_of Cost = codes "Cost"
name_of NotDeficient = codes "NotDeficient"
name_of Groups = codes "Groups"

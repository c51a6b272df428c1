-- The number and the name that a refusal of an expression is printed with.
use Rattle.std.specs.Prelude.{ℕ, List, codes}
use Rattle.logic_ast.specs.declared.fault.LogicFault.{LogicFault}
use Rattle.logic_ast.specs.declared.fault.LogicFault.TheVariants.{WantOfMemory, UnknownOperator, BadArguments, TooBig, NoSite, Computed}

abbrev pub number_of : LogicFault → ℕ
number_of WantOfMemory = 0
number_of UnknownOperator = 1
number_of BadArguments = 2
number_of TooBig = 3
number_of NoSite = 4
number_of Computed = 5

abbrev pub name_of : LogicFault → List ℕ
name_of WantOfMemory = codes "WantOfMemory"
name_of UnknownOperator = codes "UnknownOperator"
name_of BadArguments = codes "BadArguments"
name_of TooBig = codes "TooBig"
name_of NoSite = codes "NoSite"
name_of Computed = codes "Computed"

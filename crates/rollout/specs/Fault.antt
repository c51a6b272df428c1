-- The number and the name that a refusal of a rollout is printed with, and what a refusal of a lower call becomes.
use Rattle.std.specs.Prelude.{ℕ, List, codes}
use Rattle.bucket_core.specs.declared.fault.RuleFault.{RuleFault}
use Rattle.bucket_core.specs.declared.fault.RuleFault.TheVariants as rule
use Rattle.flag_defs.specs.declared.fault.DefFault.{DefFault}
use Rattle.flag_defs.specs.declared.fault.DefFault.TheVariants as document
use Rattle.logic_ast.specs.declared.fault.LogicFault.{LogicFault}
use Rattle.logic_ast.specs.declared.fault.LogicFault.TheVariants as logic
use Rattle.price_core.specs.declared.fault.PriceFault.{PriceFault}
use Rattle.price_core.specs.declared.fault.PriceFault.TheVariants as price
use Rattle.transport_core.specs.declared.fault.CheckFault.{CheckFault}
use Rattle.transport_core.specs.declared.fault.CheckFault.TheVariants as check
use Rattle.rollout.specs.declared.fault.RolloutFault.{RolloutFault}
use Rattle.rollout.specs.declared.fault.RolloutFault.TheVariants.{WantOfMemory, Request, UnknownFlag, NoSite, Computed, UnknownVariant, TotalsSum, TotalTooLarge, NoWeight, TooLarge, OtherTally}

-- want of memory is 0
abbrev pub number_of : RolloutFault → ℕ
number_of WantOfMemory = 0
number_of (Request fault) = 1
number_of UnknownFlag = 2
number_of NoSite = 3
number_of Computed = 4
number_of UnknownVariant = 5
number_of TotalsSum = 6
number_of TotalTooLarge = 7
number_of NoWeight = 9
number_of TooLarge = 10
number_of OtherTally = 11

-- the name of the variant
abbrev pub name_of : RolloutFault → List ℕ
name_of WantOfMemory = codes "WantOfMemory"
name_of (Request fault) = codes "Request"
name_of UnknownFlag = codes "UnknownFlag"
name_of NoSite = codes "NoSite"
name_of Computed = codes "Computed"
name_of UnknownVariant = codes "UnknownVariant"
name_of TotalsSum = codes "TotalsSum"
name_of TotalTooLarge = codes "TotalTooLarge"
name_of NoWeight = codes "NoWeight"
name_of TooLarge = codes "TooLarge"
name_of OtherTally = codes "OtherTally"

-- A name that the flag lacks is told of requests and rules alike. Every other refusal of a request is carried.
abbrev pub of_price : PriceFault → RolloutFault
of_price price.WantOfMemory = WantOfMemory
of_price price.BadRequest = Request price.BadRequest
of_price price.UnknownVariant = UnknownVariant
of_price price.SelfPair = Request price.SelfPair
of_price price.PriceRange = Request price.PriceRange
of_price price.EmptyRange = Request price.EmptyRange

-- of what is told of a site of an expression
abbrev pub of_logic : LogicFault → RolloutFault
of_logic logic.WantOfMemory = WantOfMemory
of_logic logic.UnknownOperator = NoSite
of_logic logic.BadArguments = NoSite
of_logic logic.TooBig = NoSite
of_logic logic.NoSite = NoSite
of_logic logic.Computed = Computed

-- of what is told of a list of entries
abbrev pub of_rule : RuleFault → RolloutFault
of_rule rule.WantOfMemory = WantOfMemory
of_rule rule.NoWeight = NoWeight
of_rule rule.TooHeavy = TotalTooLarge
of_rule rule.BadRule = Computed

-- of what is told of a document
abbrev pub of_document : DefFault → RolloutFault
of_document document.WantOfMemory = WantOfMemory
of_document document.NotJson = TooLarge
of_document document.NoFlags = TooLarge
of_document document.TooLarge = TooLarge

-- of what is told of limits that an instance cannot have
abbrev pub of_check : CheckFault → RolloutFault
of_check check.WantOfMemory = WantOfMemory
of_check fault = TotalsSum

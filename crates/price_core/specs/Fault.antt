-- The number and the name that a refusal of a request is printed with.
use Rattle.std.specs.Prelude.{ℕ, List, codes}
use Rattle.flag_text.specs.declared.fault.TextFault.{TextFault}
use Rattle.flag_text.specs.declared.fault.TextFault.TheVariants as text
use Rattle.price_core.specs.declared.fault.PriceFault.{PriceFault}
use Rattle.price_core.specs.declared.fault.PriceFault.TheVariants.{WantOfMemory, BadRequest, UnknownVariant, SelfPair, PriceRange, EmptyRange}

-- want of memory is 0
abbrev pub number_of : PriceFault → ℕ
number_of WantOfMemory = 0
number_of BadRequest = 1
number_of UnknownVariant = 2
number_of SelfPair = 3
number_of PriceRange = 4
number_of EmptyRange = 5

-- the name of the variant
abbrev pub name_of : PriceFault → List ℕ
name_of WantOfMemory = codes "WantOfMemory"
name_of BadRequest = codes "BadRequest"
name_of UnknownVariant = codes "UnknownVariant"
name_of SelfPair = codes "SelfPair"
name_of PriceRange = codes "PriceRange"
name_of EmptyRange = codes "EmptyRange"

-- A text that is no tree is no request.
abbrev pub of_text : TextFault → PriceFault
of_text text.WantOfMemory = WantOfMemory
of_text text.NotJson = BadRequest
of_text text.NotWhole = BadRequest
of_text text.TooLarge = BadRequest
of_text text.TooDeep = BadRequest

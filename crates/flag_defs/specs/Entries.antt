-- What is read of a document before its flags are limited.
use Rattle.std.specs.Prelude.{◌≢◌, Option, Some, None, Result, Ok, Err, String, Vec}
use Rattle.std.specs.declared.alloc.Global.{Global}
use Rattle.flag_text.specs.Shape.{Members}
use Rattle.flag_defs.specs.Document.{AllMean, Definitions, limited}
use Rattle.flag_defs.specs.Flag.{entries_view}
use Rattle.flag_defs.specs.declared.fault.DefFault.{DefFault}
use Rattle.flag_defs.specs.declared.fault.DefFault.TheVariants.{WantOfMemory}
use Rattle.flag_defs.specs.declared.flag.Flag.{Flag}

-- what was returned, once it is limited, has this property, unless memory ran out
abbrev pub HoldsLimited : (Result Definitions DefFault → Type 0) → Result (Vec (String Global × Flag) Global) DefFault → Type 0
HoldsLimited P (Ok es) = P (limited (entries_view es.items))
HoldsLimited P (Err e) = e ≢ WantOfMemory → P (Err e)

-- each flag is what its definition means, before they are limited
abbrev pub AreMeant : Members → Option Members → Definitions → Type 0
AreMeant evaluators None fs = ⊥
AreMeant evaluators (Some ms) fs = AllMean evaluators ms fs

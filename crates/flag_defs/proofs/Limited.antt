-- What limiting the list of a document's flags gives.
use Rattle.std.proofs.Common.{Result, Ok, Err, subst}
use Rattle.flag_text.specs.Outcome.{GivesUnless}
use Rattle.flag_defs.specs.Document.{Definitions, limited}
use Rattle.flag_defs.specs.declared.fault.DefFault.{DefFault}
use Rattle.flag_defs.specs.declared.fault.DefFault.TheVariants.{WantOfMemory}
use Rattle.flag_defs.specs.Flags.{flags_view, HoldsUnless}
use Rattle.flag_defs.specs.declared.flags.Flags.{Flags}

-- what holds of flags once they are limited holds of what limiting them gives
pub holds_limited : (P : Result Definitions DefFault → Type 0) (fs : Definitions) (r : Result Flags DefFault) → P (limited fs) → GivesUnless WantOfMemory flags_view r (limited fs) → HoldsUnless P r
holds_limited P fs (Ok x) p h = subst P h p
holds_limited P fs (Err e) p h = λ n. subst P (h n) p

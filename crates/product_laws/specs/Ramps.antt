-- The same of a rollout in steps.
use Rattle.std.specs.Prelude.{Bool, Option}
use Rattle.flagops_ramps.specs.Apply.{IsStepReport}
use Rattle.flagops_ramps.specs.Keep.{IsKeepReport}
use Rattle.flagops_ramps.specs.Ramp.{IsRampReport}
use Rattle.flagops_ramps.specs.Report.{Came}
use Rattle.flagops_ramps.specs.Verify.{IsVerdictReport}
use Rattle.flagops_ramps.specs.Words.{Applying, Keeping, Ramping, Verifying}
use Rattle.flagops_shell.specs.Files.{Holding}
use Rattle.product_laws.specs.Whole.{IsWholeAt}

-- the words of a rollout in steps, with the option or without it
abbrev pub verified_as : Bool → Verifying → Verifying
verified_as floats v = record v { rollout = record v.rollout { floats = floats } }

-- of `ramp`
abbrev pub RampsStay : Type 0
RampsStay = (other : Bool) (at : Holding) (a : Ramping) (r : Came) → IsWholeAt at a.document → IsRampReport at a r → IsRampReport at (record a { floats = other }) r

-- of `verify-ramp`
abbrev pub RampVerdictsStay : Type 0
RampVerdictsStay = (other : Bool) (at : Holding) (v : Verifying) (r : Came) → IsWholeAt at v.rollout.document → IsVerdictReport at v r → IsVerdictReport at (verified_as other v) r

-- of `apply --step`
abbrev pub StepsStay : Type 0
StepsStay = (other : Bool) (at : Holding) (a : Applying) (r : Came) → IsWholeAt at a.document → IsStepReport at a r → IsStepReport at (record a { floats = other }) r

-- of `apply --step --keep`, with the document that it writes
abbrev pub KeptStepsStay : Type 0
KeptStepsStay =
    (other : Bool) (at : Holding) (after : Option Holding) (k : Keeping) (r : Came) → IsWholeAt at k.answered.rollout.document
    → IsKeepReport at after k r → IsKeepReport at after (record k { answered = verified_as other k.answered }) r

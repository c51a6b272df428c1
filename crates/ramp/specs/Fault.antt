-- What the faults are told as.
use Rattle.std.specs.Prelude.{ℕ, List, codes}
use Rattle.flag_text.specs.declared.fault.TextFault.{TextFault}
use Rattle.flag_text.specs.declared.fault.TextFault.TheVariants as text
use Rattle.ramp.specs.declared.file_fault.StepsFault.{StepsFault}
use Rattle.ramp.specs.declared.file_fault.StepsFault.TheVariants as steps
use Rattle.ramp.specs.declared.file_fault.RampFileFault.{RampFileFault}
use Rattle.ramp.specs.declared.file_fault.RampFileFault.TheVariants.{WantOfMemory, Line, TooLarge}

-- A text that is no tree is no steps.
abbrev pub of_text : TextFault → StepsFault
of_text text.WantOfMemory = steps.WantOfMemory
of_text text.NotJson = steps.Shape
of_text text.NotWhole = steps.Shape
of_text text.TooLarge = steps.Shape
of_text text.TooDeep = steps.Shape

-- want of memory is 0
abbrev pub number_of : RampFileFault → ℕ
number_of WantOfMemory = 0
number_of (Line n) = 1
number_of TooLarge = 2

-- the name of the variant
abbrev pub name_of : RampFileFault → List ℕ
name_of WantOfMemory = codes "WantOfMemory"
name_of (Line n) = codes "Line"
name_of TooLarge = codes "TooLarge"

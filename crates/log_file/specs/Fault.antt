-- Refusals of a log, by number and name.
use Rattle.std.specs.Prelude.{ℕ, List, codes}
use Rattle.log_file.specs.declared.fault.LogFault.{LogFault}
use Rattle.log_file.specs.declared.fault.LogFault.TheVariants.{WantOfMemory, Unopened, InUse}

abbrev pub fault_number : LogFault → ℕ
fault_number WantOfMemory = 0
fault_number Unopened = 1
fault_number InUse = 2

abbrev pub fault_name : LogFault → List ℕ
fault_name WantOfMemory = codes "WantOfMemory"
fault_name Unopened = codes "Unopened"
fault_name InUse = codes "InUse"

-- The number and the name that a frame fault is printed with.
use Rattle.std.specs.Prelude.{ℕ, List, codes}
use Rattle.sync_frames.specs.declared.fault.FrameFault.{FrameFault}
use Rattle.sync_frames.specs.declared.fault.FrameFault.TheVariants.{WantOfMemory, Length, NotRising, Document, Failed}

abbrev pub number_of : FrameFault → ℕ
number_of WantOfMemory = 0
number_of Length = 1
number_of NotRising = 2
number_of Document = 3
number_of Failed = 4

abbrev pub name_of : FrameFault → List ℕ
name_of WantOfMemory = codes "WantOfMemory"
name_of Length = codes "Length"
name_of NotRising = codes "NotRising"
name_of Document = codes "Document"
name_of Failed = codes "Failed"

-- The faults that a stream shows.
use Rattle.std.specs.Prelude.{Bool, true, false}
use Rattle.sync_frames.specs.declared.fault.FrameFault.{FrameFault}
use Rattle.sync_frames.specs.declared.fault.FrameFault.TheVariants.{WantOfMemory, Failed}
use Rattle.sync_frames.specs.declared.stage.Stage.{Stage}
use Rattle.sync_frames.specs.declared.stage.Stage.TheVariants as stage

abbrev pub is_shown : FrameFault → Bool
is_shown WantOfMemory = false
is_shown Failed = false
is_shown fault = true

-- a fault that waits is one that a stream shows
abbrev pub is_stage : Stage → Bool
is_stage (stage.Faulty fault) = is_shown fault
is_stage stage = true

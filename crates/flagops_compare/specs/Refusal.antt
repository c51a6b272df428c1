-- The line that a refusal of `compare` is written as.
use Rattle.std.specs.Prelude.{ℕ, Bool, true, false, List, [], codes, decimal}
use Rattle.flagops_files.specs.Refusal as files
use Rattle.flagops_files.specs.Refusal.{line_with}
use Rattle.flagops_compare.specs.declared.refusal.CompareRefusal.{CompareRefusal}
use Rattle.flagops_compare.specs.declared.refusal.CompareRefusal.TheVariants.{WantOfMemory, Load, OtherTally}

-- memory ran out
abbrev pub is_want : CompareRefusal → Bool
is_want WantOfMemory = true
is_want (Load e) = files.is_want e
is_want OtherTally = false

-- a file could not be read
abbrev pub is_unread : CompareRefusal → Bool
is_unread WantOfMemory = false
is_unread (Load e) = files.is_unread e
is_unread OtherTally = false

-- `refused`, the call, the number and the name
abbrev pub line_of : CompareRefusal → List ℕ
line_of WantOfMemory = line_with (codes "compare") (decimal 0) (codes "WantOfMemory") []
line_of (Load e) = files.line_of e
line_of OtherTally = line_with (codes "compare") (decimal 1) (codes "OtherTally") []

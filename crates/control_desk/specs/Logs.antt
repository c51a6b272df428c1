-- The logs of a folder.
use Rattle.std.specs.Prelude.{◌≡◌, ◌⊎◌, ◌<◌, ℕ, true, false, List, filter, map, Option, Some, None, string_bytes}
use Rattle.flagops_shell.specs.Files.{Holding}
use Rattle.control_desk.specs.Files.{Naming, path_in}
use Rattle.control_desk.specs.Names.{is_chosen}
use Rattle.control_desk.specs.Obstacles.{AreGone, Met}
use Rattle.control_desk.specs.declared.logs.Logs as program
use Rattle.control_desk.specs.declared.logs.Unread.{Unread}
use Rattle.control_desk.specs.declared.logs.Unread.TheVariants.{WantOfMemory, Failed}

-- the bytes of the files of these names in a folder, where they are known
abbrev pub AreAt : Option Holding → List ℕ → List (List ℕ) → List (List ℕ) → Type 0
AreAt None folder names files = Unit {0}
AreAt (Some at) folder names files = map Some files ≡ map (λ name. at (path_in folder name)) names

-- of these names: the bytes of all files that are logs and not compressed, in their order, and the names of those that are compressed
pub record AreListed (holding : Option Holding) (folder : List ℕ) (names files passed : List (List ℕ)) : Type 0 where
  pub read : AreAt holding folder (filter (is_chosen false) names) files
  pub passed_over : passed ≡ filter (is_chosen true) names

-- the same of all names of a folder, where they are known
abbrev pub AreLogs : Option Naming → Option Holding → List ℕ → List (List ℕ) → List (List ℕ) → Type 0
AreLogs None holding folder files passed = Unit {0}
AreLogs (Some named) holding folder files passed = AreListed holding folder (named folder) files passed

-- why logs are not read, by how often the system had failed before and after: it failed
abbrev pub IsUnreadOf : ℕ → ℕ → Unread → Type 0
IsUnreadOf faults faults' WantOfMemory = Unit {0}
IsUnreadOf faults faults' Failed = faults < faults'

-- the same, or ten times one was gone
abbrev pub IsUnread : ℕ → ℕ → Met → Met → Unread → Type 0
IsUnread faults faults' met met' WantOfMemory = Unit {0}
IsUnread faults faults' met met' Failed = (faults < faults') ⊎ AreGone met met'

-- ---- of the program

abbrev pub bytes_of : program.Logs → List (List ℕ)
bytes_of logs = map (λ log. log.bytes.items) logs.files.items

abbrev pub passed_by : program.Logs → List (List ℕ)
passed_by logs = map string_bytes logs.passed_over.items

-- What a person at a terminal is told that a command does beside reading and answering.
use Rattle.std.specs.Prelude.{Bool, true, false, List, [], ◌∷◌, ◌&&◌, codes, if◌then◌else◌, Option, Some, None}
use Rattle.std.specs.Str.{bytes_eq}
use Rattle.clap.specs.Walk.{Text}
use Rattle.flagops.specs.First.{family_of, has_word}
use Rattle.flagops.specs.declared.family.Family.{Family}
use Rattle.flagops.specs.declared.family.Family.TheVariants.{Serve, Follow, Ramp, PlanPicture, Ofrep, Record, Tally}

-- a filter reads the standard input: nothing is told while that is typed
abbrev pub read_work : Bool → Option Text
read_work is_typed = if is_typed then None else Some (codes "reading the standard input")

-- a command over files, by its name
abbrev pub work_named : Text → Text
work_named name = if bytes_eq name (codes "plan") then codes "planning" else codes "working"

-- a command that serves or follows is told nothing of
abbrev pub work_in : Bool → Text → Family → Option Text
work_in is_typed name Serve = None
work_in is_typed name Follow = None
work_in is_typed name Ofrep = None
work_in is_typed name Record = read_work is_typed
work_in is_typed name Tally = read_work is_typed
work_in is_typed name Ramp = Some (codes "planning")
work_in is_typed name PlanPicture = Some (codes "planning")
work_in is_typed name _ = Some (work_named name)

-- where a file is typed, nothing is told
abbrev pub work_of : Bool → List Text → Option Text
work_of is_typed [] = None
work_of is_typed (first ∷ words) =
    if is_typed && has_word (codes "-") (first ∷ words) then None else work_in is_typed first (family_of (first ∷ words))

-- the command that writes while it reads
abbrev pub is_filter : Family → Bool
is_filter Record = true
is_filter _ = false

-- the command that serves until it is ended, and tells what happens to it meanwhile
abbrev pub is_service : Family → Bool
is_service Ofrep = true
is_service _ = false

-- What asks come to by flags of which none has floats.
use Rattle.std.specs.Prelude.{◌≡◌, ℕ, Bool, true, false, List, Option, Some, Result}
use Rattle.book_core.specs.Book.{Contents}
use Rattle.flag_defs.specs.Document.{Definitions}
use Rattle.flag_defs.specs.Floats.{Marks, are_unmarked}
use Rattle.flag_resolve.specs.Resolution.{resolved_by}
use Rattle.flagops_drive.specs.Asks.{Ask}
use Rattle.flagops_drive.specs.Driven.{DriveOutput, IsDriveOf}
use Rattle.flagops_drive.specs.Floats.{answered, answered_spelled, asked_as}
use Rattle.flagops_drive.specs.declared.fault.DriveRefusal.{DriveRefusal}

-- They are asked as they stand.
abbrev pub AsksStay : Type 0
AsksStay = (flags : Definitions) (marks : Marks) (a : Ask) → are_unmarked marks ≡ true → asked_as (flags, marks) a ≡ a

-- They resolve as without floats.
abbrev pub AnswersStay : Type 0
AnswersStay = (flags : Definitions) (marks : Marks) (a : Ask) → are_unmarked marks ≡ true → answered (flags, marks) a ≡ resolved_by (Some flags) a.want a.default a.context a.key a.moment

-- No value is printed by its spelling.
abbrev pub NothingIsSpelled : Type 0
NothingIsSpelled = (flags : Definitions) (marks : Marks) (a : Ask) → are_unmarked marks ≡ true → answered_spelled (flags, marks) a ≡ false

-- So what comes of them, with the book, is the same by each such flags.
abbrev pub FloatsChangeNothing : Type 0
FloatsChangeNothing =
    (flags : Definitions) (marks others : Marks) (asks : Option (List Ask)) (workers : ℕ) (before : Option Contents) (json : Bool) (r : Result DriveOutput DriveRefusal)
    → are_unmarked marks ≡ true → are_unmarked others ≡ true → IsDriveOf (flags, marks) asks workers before json r → IsDriveOf (flags, others) asks workers before json r

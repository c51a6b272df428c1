-- The number of a file that is opened in place of another.
use Rattle.std.specs.Prelude.{◌≡◌, ◌<◌, Option, IfSome}
use Rattle.log_file.specs.declared.journal.Look.{Look}
use Rattle.log_file.specs.declared.journal.Look.TheVariants.{Stands, Reopened, Lost}
use Rattle.note_log.specs.declared.files.FileNumber.{FileNumber}

-- it is above that of the other
abbrev pub IsRenewed : Option FileNumber → Option FileNumber → Type 0
IsRenewed old new = IfSome old (λ file. IfSome new (λ other. file.number < other.number))

-- a file that was found lost has another number than the one that is open then
abbrev pub RenewedAfter : Look → Option FileNumber → Option FileNumber → Type 0
RenewedAfter Stands old new = new ≡ old
RenewedAfter (Reopened loss) old new = IsRenewed old new
RenewedAfter (Lost loss fault) old new = IsRenewed old new

-- What is written of a stream that was not recorded to its end, in private contracts alone.
use Rattle.std.specs.Prelude.{◌≡◌, ℕ, Bool, true, false, Err}
use Rattle.flagops_shell.specs.Console.{Shown}
use Rattle.note_streams.specs.Stop.{is_output_fault}
use Rattle.note_streams.specs.declared.recording.Counted.{Counted}
use Rattle.note_streams.specs.declared.stop.RecordStop.{RecordStop}
use Rattle.note_streams.specs.declared.stop.TallyStop.{TallyStop}
use Rattle.flagops_shell.specs.Diagnostic.{Says}
use Rattle.flagops_filters.specs.Record.{record_call}
use Rattle.flagops_filters.specs.Remarks.{NamesInput}
use Rattle.flagops_filters.specs.Report.{Told}
use Rattle.flagops_filters.specs.Writing.{RefusesOrWants}
use Rattle.flagops_filters.specs.declared.refusal.FilterRefusal.TheVariants.{Record, Tally}

-- the output has failed
abbrev pub is_broken_off : RecordStop → Bool
is_broken_off stop = is_output_fault {X = Counted} (Err stop)

-- nothing where the output has failed, and else the line of the refusal
abbrev pub GivesUp : Shown → Shown → ℕ → RecordStop → Bool → Type 0
GivesUp old new status stop true = (new.printed ≡ old.printed) × (new.is_broken ≡ true) × (status ≡ 1) × (new.reported ≡ old.reported)
GivesUp old new status stop false = RefusesOrWants old new status record_call NamesInput (Record stop)

-- a stream was not tallied to its end, and a person is told so by the words for the standard input
abbrev pub IsStopped : Told → Type 0
IsStopped told = ((stop : TallyStop) × (told.refusal ≡ Tally stop)) × Says NamesInput told.remark

-- What is written where the words of a command ask for nothing, by the kind of the error that `clap` gives.
use Rattle.std.specs.Prelude.{◌≡◌, ◌⊎◌, ℕ, Bool, false, List, Option, None, codes}
use Rattle.clap.specs.Kinds.{Kinds, IsAmong}
use Rattle.clap.specs.declared.error.kind.ErrorKind.{ErrorKind}
use Rattle.clap.specs.declared.error.kind.ErrorKind.TheVariants.{DisplayHelp, DisplayVersion, OutOfMemory}
use Rattle.flagops_shell.specs.Console.{Shown}
use Rattle.flagops_shell.specs.Report.{PutsText, Reports, ShowsReport, refusal_report, want_line_of}

-- why the words ask for nothing: one of their mistakes, unless memory ran out
abbrev pub IsToldBy : {X : Type 0} → Kinds → Option X → ErrorKind → Type 0
IsToldBy faults asked kind = (kind ≡ OutOfMemory) ⊎ ((asked ≡ None) × IsAmong kind faults)

module _ (old new : Shown) (status : ℕ) where
  -- memory ran out while the words were read: a line on the output, and told
  abbrev pub ShowsWordsWant : Type 0
  ShowsWordsWant = ShowsReport old new status (refusal_report (want_line_of (codes "flagops")))

  -- a text that was asked for goes to the output
  abbrev pub ShowsText : Type 0
  ShowsText = (new.reported ≡ old.reported) × ((text : List ℕ) × Reports old.printed new.printed new.is_broken status (record { text = text; status = 0; is_told = false }))

  -- a mistake in the words is told by a text beside the output, which stays as it was
  abbrev pub ShowsMistake : Type 0
  ShowsMistake = (new.printed ≡ old.printed) × (status ≡ 2) × PutsText old.reported new.reported new.is_mute

  -- by the kind of the error
  abbrev pub ShowsUsage : ErrorKind → Type 0
  ShowsUsage OutOfMemory = ShowsWordsWant
  ShowsUsage DisplayHelp = ShowsText ⊎ ShowsWordsWant
  ShowsUsage DisplayVersion = ShowsText ⊎ ShowsWordsWant
  ShowsUsage kind = ShowsMistake ⊎ ShowsWordsWant

  -- by one of these mistakes, or memory ran out
  abbrev pub ShowsOneUsage : Kinds → Type 0
  ShowsOneUsage faults = ShowsWordsWant ⊎ ((kind : ErrorKind) × IsAmong kind faults × ShowsUsage kind)

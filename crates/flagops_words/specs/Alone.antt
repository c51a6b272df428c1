-- What the words of a command ask for that reads them by itself, apart from the program, by what `clap` reads of them.
use Rattle.std.specs.Prelude.{◌≡◌, ◌⊎◌, is_some, List, [], ◌∷◌, Option, None, if◌then◌else◌}
use Rattle.clap.specs.Faults.{fault_of}
use Rattle.clap.specs.Kinds.{Kinds, IsAmong, or_else}
use Rattle.clap.specs.Simple.{App, matches_of}
use Rattle.clap.specs.Walk.{Row, Text}
use Rattle.clap.specs.declared.error.kind.ErrorKind.{ErrorKind}
use Rattle.clap.specs.declared.error.kind.ErrorKind.TheVariants.{InvalidValue, OutOfMemory}
use Rattle.flagops_words.specs.Words.{if_faultless}

-- the mistakes of the words of a command: those that `clap` finds, and a value that is not there
abbrev pub faults_in : {X : Type 0} → App → (List Row → Option X) → List Text → Kinds
faults_in app read words = or_else (fault_of app words) (if is_some (read (matches_of app words)) then [] else (InvalidValue ∷ []))

-- what words without a mistake ask for
abbrev pub asked_in : {X : Type 0} → App → (List Row → Option X) → List Text → Option X
asked_in app read words = if_faultless (faults_in app read words) (read (matches_of app words))

-- why the words ask for nothing: one of their mistakes, unless memory ran out
abbrev pub IsToldBy : {X : Type 0} → Kinds → Option X → ErrorKind → Type 0
IsToldBy faults asked kind = (kind ≡ OutOfMemory) ⊎ ((asked ≡ None) × IsAmong kind faults)

-- What a person is told: of a refusal that is known by its kind the name of the file at a path, or of the word, that it is of; and
-- what is told beside a report.
use Rattle.std.specs.Prelude.{ℕ, Bool, true, false, List, [], ◌∷◌, codes, unwrap_or, Option}
use Rattle.flagops_drive.specs.declared.fault.DriveRefusal.{DriveRefusal}
use Rattle.flagops_drive.specs.declared.fault.DriveRefusal.TheVariants as driving
use Rattle.flagops_commands.specs.Refusal.{loads_book, loads_tree, stores_file, Subjects, by}
use Rattle.flagops_files.specs.Told.{file, word}
use Rattle.flagops_shell.specs.Files.{Holding}
use Rattle.flagops_shell.specs.Report.{Report}
use Rattle.flagops_shell.specs.declared.refused.Remark.{Remark}
use Rattle.flagops_commands.specs.declared.refusal.PriceMismatch.TheVariants.{Weight, BadKeys}
use Rattle.flagops_commands.specs.declared.refusal.ListedRefusal.{ListedRefusal}
use Rattle.flagops_commands.specs.declared.refusal.ListedRefusal.TheVariants.{Note, Price, Drive, Doubted, WouldLose}
use Rattle.flagops_commands.specs.DriveSummary.{TellsPrinted}
use Rattle.flagops_commands.specs.Price.{TellsRequestAt}
use Rattle.flagops_rollouts.specs.Doubts.{NamesDoubted}
use Rattle.flagops_rollouts.specs.Finer.{TellsFinerOf}
use Rattle.flagops_rollouts.specs.Remarks.{TellsAppliedAt, TellsDoubtsAt, TellsKeptAt, TellsPlanAt}
use Rattle.file_diagnostics.specs.Named.{Names, NamesWord}
use Rattle.flagops_words.specs.Asked.{Asked, price, resolve, verify, apply, keep, plan, drive}

-- a key file is refused as a file, for what it holds, or for a key
abbrev pub is_of_keys : ListedRefusal → Bool
is_of_keys (Price BadKeys) = true
is_of_keys (Note e) = true
is_of_keys e = by loads_tree e

-- two rules are refused together, by the weights of the old one
abbrev pub is_of_rules : ListedRefusal → Bool
is_of_rules (Price Weight) = true
is_of_rules e = false

abbrev pub old_weights : List ℕ
old_weights = codes "the weights of OLD"

-- asks that were read are refused for what they are, or for what is doubted of them
abbrev pub is_of_asks : ListedRefusal → Bool
is_of_asks (Drive driving.BadAsks) = true
is_of_asks (Doubted d) = true
is_of_asks e = false

-- asks that are not driven, as by too many workers
abbrev pub is_of_driving : ListedRefusal → Bool
is_of_driving (Drive (driving.Drive e)) = true
is_of_driving e = false

abbrev pub the_workers : List ℕ
the_workers = codes "WORKERS"

-- a book that cannot take what was reached
abbrev pub is_of_adding : ListedRefusal → Bool
is_of_adding (Drive driving.PageFull) = true
is_of_adding e = false

-- a book that is written over would lose inputs
abbrev pub is_of_losing : ListedRefusal → Bool
is_of_losing (WouldLose n) = true
is_of_losing e = false

-- what is refused of the book that is written
abbrev pub written_subjects : List ℕ → Subjects
written_subjects book = (file book, by loads_book) ∷ (file book, by stores_file) ∷ (file book, is_of_losing) ∷ []

-- what is said of asks that are refused
abbrev pub NamesDriven : List ℕ → List ℕ → DriveRefusal → List ℕ → Type 0
NamesDriven asks book driving.BadAsks lines = Names asks lines
NamesDriven asks book (driving.Drive e) lines = NamesWord the_workers lines
NamesDriven asks book driving.PageFull lines = Names book lines

-- what is refused of the asks that were read, or of the book that they are noted in
abbrev pub driven_subjects : List ℕ → List ℕ → Subjects
driven_subjects asks book = (file asks, is_of_asks) ∷ (word the_workers, is_of_driving) ∷ (file book, is_of_adding) ∷ []

-- what a person is told beside the report of a command that was not refused: what is doubted of a
-- request or of an answer to it, a key or a kind that the document does not have, what is left out of a document, and what the asks ended in
abbrev pub notes_of : Asked → List ℕ → Type 0
notes_of (price old new request keys json) = Names request
notes_of (resolve document key kind default context moment floats) = Names document
notes_of (verify document request book answer refine strict json floats) = NamesDoubted request book
notes_of (plan document request book refine strict explain floats) = NamesDoubted request book
notes_of (apply document answer key site strict floats) = Names document
notes_of (keep document answer request book write refine strict floats) = NamesDoubted request book
notes_of (drive document asks workers book add replace strict json floats) = Names asks
notes_of asked = λ lines. Unit {0}

-- and the numbers that are told: of `plan`, how many points its rule has where it was planned in finer ones, and of `drive`, those of what it printed
abbrev pub numbers_of : Asked → Holding → Report → List ℕ → Type 0
numbers_of (plan document request book refine strict explain floats) at report = TellsFinerOf request (unwrap_or refine 1) report.text
numbers_of (drive document asks workers book add replace strict json floats) at report = TellsPrinted floats at document asks book add json report.text
numbers_of asked at report = λ lines. Unit {0}

-- and of `price` and of a command on rollouts all that is told, part after part
abbrev pub parts_of : Asked → Holding → Report → Option Remark → Type 0
parts_of (price old new request keys json) at report told = TellsRequestAt at request told
parts_of (verify document request book answer refine strict json floats) at report told = TellsDoubtsAt floats at document request book told
parts_of (plan document request book refine strict explain floats) at report told = TellsPlanAt floats at document request book (unwrap_or refine 1) explain report.text told
parts_of (apply document answer key site strict floats) at report told = TellsAppliedAt floats at document answer key site told
parts_of (keep document answer request book write refine strict floats) at report told = TellsKeptAt floats at document answer request book told
parts_of asked at report told = Unit {0}

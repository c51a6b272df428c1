-- What the filters of the standard input come to, by what it gives, what the console shows before and after, what the files show, and
-- the status.
use Rattle.std.specs.Prelude.{◌≡◌, ◌⊎◌, ℕ, Bool, true, false, List, Option, Some, None, IfSome}
use Rattle.clap.specs.Walk.{Text}
use Rattle.flagops_shell.specs.Console.{Shown}
use Rattle.flagops_shell.specs.Ending.{ShowsUnread}
use Rattle.flagops_shell.specs.Files.{Holding}
use Rattle.flagops_shell.specs.Running.{AnswersAsked}
use Rattle.flagops_shell.specs.Usage.{ShowsOneUsage, ShowsWordsWant}
use Rattle.flagops_filters.specs.Command.{tally_description}
use Rattle.flagops_filters.specs.Record.{RecordAnswers, record_call}
use Rattle.flagops_filters.specs.Refusal.{is_unread, line_of}
use Rattle.flagops_filters.specs.Tally.{tally_call}
use Rattle.flagops_filters.specs.Words.{Recording, Tallying, record_by, record_faults, tally_by, tally_faults}

module _ (old new : Shown) (status : ℕ) (words : List Text) where
  -- over files and a standard input whose bytes are known, where the clock shows some second; where `is_cut`, a read of it failed
  abbrev pub AnswersRecord : Option Holding → Bool → Option (List ℕ) → Bool → Type 0
  AnswersRecord files has_failed given is_cut = (now : ℕ) × IfSome (record_by words) (λ a. IfSome files (λ at. IfSome given (λ bytes.
      RecordAnswers old new status at has_failed a now bytes is_cut ⊎ ShowsWordsWant old new status)))

  abbrev pub AnswersTally : Option Holding → Option Holding → Bool → Option (List ℕ) → Bool → Type 0
  AnswersTally files after has_failed given is_cut =
      IfSome given (λ bytes. AnswersAsked (tally_description bytes is_cut) is_unread old new status line_of files after has_failed words)

  -- whatever the files hold, a read of one that failed is what is reported
  abbrev pub UnreadRecord : Bool → Bool → Type 0
  UnreadRecord had_failed has_failed = had_failed ≡ false → has_failed ≡ true → (a : Recording) × (record_by words ≡ Some a) × ShowsUnread old new status (λ name. name ≡ record_call)

  abbrev pub UnreadTally : Bool → Bool → Type 0
  UnreadTally had_failed has_failed = had_failed ≡ false → has_failed ≡ true → (a : Tallying) × (tally_by words ≡ Some a) × ShowsUnread old new status (λ name. name ≡ tally_call)

  -- words with a mistake are told by one of their mistakes
  abbrev pub TellsRecord : Type 0
  TellsRecord = record_by words ≡ None → ShowsOneUsage old new status (record_faults words)

  abbrev pub TellsTally : Type 0
  TellsTally = tally_by words ≡ None → ShowsOneUsage old new status (tally_faults words)

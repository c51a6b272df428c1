-- What `serve` and `follow` come to, by what the console shows before and after, what the files show, and the status.
use Rattle.std.specs.Prelude.{◌≡◌, ◌⊎◌, ℕ, Bool, true, false, List, length, Option, None, IfSome}
use Rattle.clap.specs.Walk.{Text}
use Rattle.flagops_shell.specs.Console.{Shown}
use Rattle.flagops_shell.specs.Files.{Holding}
use Rattle.flagops_shell.specs.Usage.{ShowsOneUsage, ShowsWordsWant}
use Rattle.flagops_streams.specs.Loading.{AnswersTo, IsRefusedOf, TellsUnloaded}
use Rattle.flagops_streams.specs.Words.{follow_by, follow_faults, serve_by, serve_faults}
use Rattle.flagops_streams.specs.Documents.{Answer, count_of}
use Rattle.flagops_streams.specs.Printed.{Follows}
use Rattle.flagops_streams.specs.Report.{FindsNobody, RefusesBy, Reports, Serves}
use Rattle.flagops_streams.specs.Told.{TellsLate, TellsServing}
use Rattle.flagops_streams.specs.declared.refusal.Refusal.TheVariants.{Unreadable}

module _ (old new : Shown) (status : ℕ) where
  -- Over files whose bytes are known, the line of what the documents at the paths make. Documents that will be refused are told, subscribers, and a refusal.
  abbrev pub AnswersServe : Option Holding → List Text → Type 0
  AnswersServe files words = IfSome (serve_by words) (λ s. IfSome files (λ at.
      ((answer : Answer) × AnswersTo at s answer
      × Reports s.documents (TellsServing s.documents (IsRefusedOf at s) (length s.documents) s.port s.subscribers) (count_of answer) old.printed new.printed new.is_broken old.reported new.reported new.is_mute status)
      ⊎ ShowsWordsWant old new status))

  -- all documents were published, or there was a refusal
  abbrev pub ServesAsked : List Text → Type 0
  ServesAsked words = IfSome (serve_by words) (λ s.
      Serves s.documents (TellsServing s.documents (λ _. Unit {0}) (length s.documents) s.port s.subscribers) (length s.documents) old.printed new.printed new.is_broken old.reported new.reported new.is_mute status
      ⊎ ShowsWordsWant old new status)

  -- the lines of a stream, beside which nothing is told but that nothing came; or nobody listens on the port, which is told
  abbrev pub FollowsAsked : List Text → Type 0
  FollowsAsked words = IfSome (follow_by words) (λ f.
      (Follows old.printed new.printed new.is_broken status × TellsLate f.wait status old.reported new.reported new.is_mute)
      ⊎ FindsNobody f.port old.printed new.printed new.is_broken old.reported new.reported new.is_mute status
      ⊎ ShowsWordsWant old new status)

  -- words with a mistake are told by one of their mistakes
  abbrev pub TellsServe : List Text → Type 0
  TellsServe words = serve_by words ≡ None → ShowsOneUsage old new status (serve_faults words)

  abbrev pub TellsFollow : List Text → Type 0
  TellsFollow words = follow_by words ≡ None → ShowsOneUsage old new status (follow_faults words)

  -- whatever the files hold, a read that failed is what is reported, and the first document that is refused is told by the path of its file
  abbrev pub RefusesUnread : Option Holding → List Text → Bool → Bool → Type 0
  RefusesUnread files words had_failed has_failed = had_failed ≡ false → has_failed ≡ true
      → RefusesBy Unreadable old.printed new.printed new.is_broken status × IfSome (serve_by words) (λ s. TellsUnloaded files s.documents old.reported new.reported new.is_mute)

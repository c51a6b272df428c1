-- What is answered to words that ask for documents to be served.
use Rattle.std.proofs.Common.{◌≡◌, ℕ, List, length, Option, Some, inl, IfSome, subst}
use Rattle.std.proofs.lemmas.Option.{IfSome_then}
use Rattle.clap.specs.Walk.{Text}
use Rattle.flagops_shell.specs.Console.{Shown}
use Rattle.flagops_shell.specs.Files.{Holding}
use Rattle.flagops_streams.specs.Documents.{Answer, count_of}
use Rattle.flagops_streams.specs.Ended.{AnswersServe}
use Rattle.flagops_streams.specs.Loading.{AnswersTo, IsRefusedOf}
use Rattle.flagops_streams.specs.Report.{Reports}
use Rattle.flagops_streams.specs.Told.{TellsServing}
use Rattle.flagops_streams.specs.Words.{Serving, serve_by}

-- by what the console shows where it lies, which is what it is seen as
pub answered : (inside old new : Shown) (status : ℕ) (files : Option Holding) (words : List Text) (s : Serving) → inside ≡ old → serve_by words ≡ Some s
    → IfSome files (λ at. (answer : Answer) × AnswersTo at s answer
    × Reports s.documents (TellsServing s.documents (IsRefusedOf at s) (length s.documents) s.port s.subscribers) (count_of answer) inside.printed new.printed new.is_broken inside.reported new.reported new.is_mute status)
    → AnswersServe old new status files words
answered inside old new status files words s seen e h =
    subst (λ (o : Shown). AnswersServe o new status files words) seen (rw e (IfSome_then files h (λ at it. inl it)))

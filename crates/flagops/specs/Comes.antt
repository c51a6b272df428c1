-- What the program comes to for words, by the family of their command: what the console shows before and after, what the files hold
-- and whether a call of theirs has failed, the status, and what the standard input gives, of which a read may have failed.
use Rattle.std.specs.Prelude.{◌≡◌, ℕ, Bool, List, Option}
use Rattle.clap.specs.Walk.{Text}
use Rattle.flagops_books.specs.Command as books
use Rattle.flagops_checks.specs.Command as checks
use Rattle.flagops_commands.specs.Commands as commands
use Rattle.flagops_commands.specs.Refusal as listed
use Rattle.flagops_compare.specs.Command as compares
use Rattle.flagops_books.specs.Refusal as book_refusals
use Rattle.flagops_checks.specs.Refusal as check_refusals
use Rattle.flagops_compare.specs.Refusal as compare_refusals
use Rattle.flagops_rollouts.specs.Refusal as rollouts
use Rattle.flagops_rollouts.specs.declared.refusal.RolloutRefusal.{RolloutRefusal}
use Rattle.flagops_filters.specs.Ended.{AnswersRecord, AnswersTally, TellsRecord, TellsTally, UnreadRecord, UnreadTally}
use Rattle.flagops_filters.specs.Command as joins
use Rattle.flagops_filters.specs.Refusal as filters
use Rattle.flagops_pictures.specs.Commands as pictures
use Rattle.flagops_ramps.specs.Commands as ramps
use Rattle.flagops_ramps.specs.Refusal as ramp_refusals
use Rattle.flagops_ramps.specs.declared.refusal.RampRefusal.{RampRefusal}
use Rattle.flagops_service.specs.Ended.{AnswersOfrep, ServesOfrep, TellsOfrep}
use Rattle.flagops_shell.specs.Console.{Shown}
use Rattle.flagops_shell.specs.Files.{Holding}
use Rattle.flagops_shell.specs.Running.{Description, Runs}
use Rattle.flagops_streams.specs.Ended.{AnswersServe, FollowsAsked, RefusesUnread, ServesAsked, TellsFollow, TellsServe}
use Rattle.flagops.specs.declared.family.Family.{Family}
use Rattle.flagops.specs.declared.family.Family.TheVariants.{Files, Serve, Follow, Ramp, VerifyRamp, Picture, PictureRamp, PlanPicture, ApplyStep, KeepStep, Ofrep, Record, Tally, Join, Book, Check, Compare}

module _ (old new : Shown) (held holds : Option Holding) (had_failed has_failed : Bool) (status : ℕ) (given : Option (List ℕ)) (is_cut : Bool) where
  -- of a command, by which of its refusals are of a file that could not be read or written, and by their lines
  abbrev pub Answers : {A R : Type 0} → Description A R → (R → Bool) → (R → List ℕ) → List Text → Type 0
  Answers d is_unread line_of words = Runs d is_unread line_of old new status held holds had_failed has_failed words

  -- of one that is refused as the commands on rollouts are
  abbrev pub AnswersRollout : {A : Type 0} → Description A RolloutRefusal → List Text → Type 0
  AnswersRollout d words = Answers d rollouts.is_unread rollouts.line_of words

  -- of a command on the steps of a ramp
  abbrev pub AnswersSteps : {A : Type 0} → Description A RampRefusal → List Text → Type 0
  AnswersSteps d words = Answers d ramp_refusals.is_unread ramp_refusals.line_of words

  -- Of `serve`: its answer over files whose bytes are known; that all was published or refused; a read that failed; what is told of
  -- words with a mistake; and the files as they were.
  abbrev pub ComesOfServe : List Text → Type 0
  ComesOfServe words =
      AnswersServe old new status held words
      × ServesAsked old new status words
      × RefusesUnread old new status held words had_failed has_failed
      × TellsServe old new status words
      × (holds ≡ held)

  -- of `follow`: the lines of a stream or why there are none; what is told of words with a mistake; and no file touched
  abbrev pub ComesOfFollow : List Text → Type 0
  ComesOfFollow words = FollowsAsked old new status words × TellsFollow old new status words × (holds ≡ held)

  -- of `ofrep`: its answer over files whose bytes are known; that it serves or is refused; and what is told of words with a mistake
  abbrev pub ComesOfOfrep : List Text → Type 0
  ComesOfOfrep words = AnswersOfrep old new status held words × ServesOfrep old new status words × TellsOfrep old new status words

  -- of `record`: its answer over files and a standard input whose bytes are known; a read of a file that failed; what is told of
  -- words with a mistake; and the files as they were
  abbrev pub ComesOfRecord : List Text → Type 0
  ComesOfRecord words =
      AnswersRecord old new status words held has_failed given is_cut
      × UnreadRecord old new status words had_failed has_failed
      × TellsRecord old new status words
      × (holds ≡ held)

  -- the same of `tally`
  abbrev pub ComesOfTally : List Text → Type 0
  ComesOfTally words =
      AnswersTally old new status words held holds has_failed given is_cut
      × UnreadTally old new status words had_failed has_failed
      × TellsTally old new status words
      × (holds ≡ held)

  abbrev pub Comes : Family → List Text → Type 0
  Comes Files words = Answers commands.description listed.is_unread listed.line_of words
  Comes Serve words = ComesOfServe words
  Comes Follow words = ComesOfFollow words
  Comes Ramp words = AnswersSteps ramps.ramp_description words
  Comes VerifyRamp words = AnswersSteps ramps.verify_description words
  Comes Picture words = AnswersRollout pictures.picture_description words
  Comes PictureRamp words = AnswersSteps pictures.ramp_description words
  Comes PlanPicture words = AnswersRollout pictures.plan_description words
  Comes ApplyStep words = AnswersSteps ramps.step_description words
  Comes KeepStep words = AnswersSteps ramps.keep_description words
  Comes Ofrep words = ComesOfOfrep words
  Comes Record words = ComesOfRecord words
  Comes Tally words = ComesOfTally words
  Comes Join words = Answers joins.join_description filters.is_unread filters.line_of words
  Comes Book words = Answers books.description book_refusals.is_unread book_refusals.line_of words
  Comes Check words = Answers checks.description check_refusals.is_unread check_refusals.line_of words
  Comes Compare words = Answers compares.description compare_refusals.is_unread compare_refusals.line_of words

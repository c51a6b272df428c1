-- What the words of a command come to, by what is known of the command.
use Rattle.std.specs.Prelude.{◌≡◌, ◌⊎◌, ℕ, Bool, true, false, List, Option, Some, None, IfSome, Result}
use Rattle.clap.specs.Kinds.{Kinds}
use Rattle.clap.specs.Walk.{Text}
use Rattle.flagops_shell.specs.Console.{Shown}
use Rattle.flagops_shell.specs.Ending.{Ends, IsUnread, ShowsDone, ShowsUnread}
use Rattle.flagops_shell.specs.Files.{Holding}
use Rattle.flagops_shell.specs.Report.{Report}
use Rattle.flagops_shell.specs.Usage.{ShowsOneUsage, ShowsWordsWant}
use Rattle.flagops_shell.specs.declared.refused.Remark.{Remark}

-- What is known of a command that asks for an A and is refused by an R.
pub record Description (A R : Type 0) : Type 1 where
  -- what words ask for, and the mistakes that they may have
  pub asked_by : List Text → Option A
  pub faults_of : List Text → Kinds
  -- what it may come to over files that hold this, and over those that it leaves; and what a person may be told of that
  pub MayCome : A → Holding → Option Holding → Result Report R → Type 0
  pub MayTell : A → Holding → Result Report R → Remark → Type 0
  -- the call by whose name a want of memory is reported, and the calls that may run out of memory
  pub call_of : A → R → List ℕ
  pub MayWant : A → List ℕ → Type 0
  -- how it may leave the files, and the statuses with which it may have changed one
  pub MayLeave : A → Option Holding → Option Holding → Type 0
  pub IsDone : ℕ → Type 0

module _ {A R : Type 0} (d : Description A R) (is_unread : R → Bool) where
  -- what it may come to; and that a file cannot be read or written only where a call has failed
  abbrev pub MayRun : A → Holding → Option Holding → Bool → Result Report R → Type 0
  MayRun a at after has_failed r = d.MayCome a at after r × (IsUnread is_unread r → has_failed ≡ true)

  -- a call by whose name a want of memory is reported of a file that could not be read or written
  abbrev pub IsFileCall : A → List ℕ → Type 0
  IsFileCall a name = (e : R) × (is_unread e ≡ true) × (name ≡ d.call_of a e)

  module _ (old new : Shown) (status : ℕ) where
    -- over files whose bytes are known, the report of what the command comes to; or memory ran out while the words were read
    abbrev pub AnswersAsked : (R → List ℕ) → Option Holding → Option Holding → Bool → List Text → Type 0
    AnswersAsked line_of files after has_failed words = IfSome (d.asked_by words) (λ a. IfSome files (λ at.
        Ends old new status line_of (d.MayWant a) (d.MayTell a at) (MayRun a at after has_failed) ⊎ ShowsWordsWant old new status))

    -- whatever the files hold, a read or a write that failed is what is reported
    abbrev pub AnswersUnread : Bool → Bool → List Text → Type 0
    AnswersUnread had_failed has_failed words = had_failed ≡ false → has_failed ≡ true
        → (a : A) × (d.asked_by words ≡ Some a) × ShowsUnread old new status (IsFileCall a)

    -- words that ask for nothing are told so
    abbrev pub TellsUnasked : List Text → Type 0
    TellsUnasked words = d.asked_by words ≡ None → ShowsOneUsage old new status (d.faults_of words)

  -- the files stay as they are, or they are left as the command may leave them
  abbrev pub LeavesAsked : List Text → Option Holding → Option Holding → Type 0
  LeavesAsked words files after = (after ≡ files) ⊎ ((a : A) × (d.asked_by words ≡ Some a) × d.MayLeave a files after)

-- where a file has changed, the command is reported to have done what it was asked
abbrev pub AnswersStored : {A R : Type 0} → Description A R → Shown → Shown → ℕ → Option Holding → Option Holding → Type 0
AnswersStored d old new status files after = (after ≡ files) ⊎ ShowsDone old new status d.IsDone

-- all that is known of what the words of a command come to
abbrev pub Runs : {A R : Type 0} → Description A R → (R → Bool) → (R → List ℕ) → Shown → Shown → ℕ → Option Holding → Option Holding → Bool → Bool → List Text → Type 0
Runs d is_unread line_of old new status files after had_failed has_failed words =
    AnswersAsked d is_unread old new status line_of files after has_failed words
    × AnswersUnread d is_unread old new status had_failed has_failed words
    × TellsUnasked d is_unread old new status words
    × LeavesAsked d is_unread words files after
    × AnswersStored d old new status files after

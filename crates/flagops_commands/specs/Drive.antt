-- What the command `drive` answers, and the book that it writes.
use Rattle.std.specs.Prelude.{◌≡◌, ◌⊎◌, ◌||◌, ℕ, ◌==◌, Bool, List, true, false, if◌then◌else◌, Option, Some, None, is_some, IfSome, Result, Ok, Err, IsErrAnd, IsOk, IsOkAnd}
use Rattle.book_core.specs.Book.{Contents}
use Rattle.book_core.specs.Reading.{book_of}
use Rattle.flagops_files.specs.Losses.{losses_at}
use Rattle.flag_resolve.specs.Floats.{Marked}
use Rattle.flag_text.specs.Shape.{Shape}
use Rattle.flagops_drive.specs.Asks.{asks_of}
use Rattle.flagops_drive.specs.Driven.{DriveOutput, IsDriveOf, refusal_of, workers_refusal}
use Rattle.flagops_drive.specs.Unread.{has_unread_ask}
use Rattle.flagops_drive.specs.declared.fault.DriveRefusal.{DriveRefusal}
use Rattle.flagops_commands.specs.Loaded.{AreFlagsAt, tree_at, book_at, replaceable_at}
use Rattle.flagops_shell.specs.Files.{Holding, KeepsOthers, Stores}
use Rattle.flagops_files.specs.Loading.{max_text}
use Rattle.flagops_shell.specs.Outcomes.{◌>>=◌, refused_by, beside, done}
use Rattle.flagops_commands.specs.Refusal.{call_of, is_want, unwritable, Outcomes, Refused}
use Rattle.flagops_rollouts.specs.declared.refusal.Doubt.{Doubt}
use Rattle.flagops_shell.specs.Report.{status_number}
use Rattle.flagops_shell.specs.declared.outcome.Outcome.{Outcome}
use Rattle.flagops_commands.specs.declared.refusal.ListedCall.TheVariants as call
use Rattle.flagops_commands.specs.declared.refusal.ListedRefusal.{ListedRefusal}
use Rattle.flagops_rollouts.specs.declared.refusal.Doubt.TheVariants as doubt
use Rattle.flagops_commands.specs.declared.refusal.ListedRefusal.TheVariants.{Load, Drive, Doubted, WouldLose}

-- the book that was there before: that of the file where it is added to, and else none, where the file may become another book
unfoldable pub before_at : Holding → List ℕ → Bool → Result (Option Contents) ListedRefusal
before_at at book false = replaceable_at at book >>= λ _. Ok None
before_at at book true = book_at at book >>= λ before. Ok (Some before)

-- what is doubted of asks: a member of one of them is not read
abbrev pub doubt_of_asks : Shape → Option Doubt
doubt_of_asks t = if has_unread_ask t then Some doubt.Unread else None

-- and of what they came to: they reached no input, so nothing was recorded
abbrev pub doubt_of_drove : DriveOutput → Option Doubt
doubt_of_drove d = if d.reached == 0 then Some doubt.Unrecorded else None

-- whether a person is told of a doubt; with `--strict` it is refused
abbrev pub settle : Bool → Option Doubt → Result Bool ListedRefusal
settle false d = Ok (is_some d)
settle true None = Ok false
settle true (Some d) = Err (Doubted d)

-- why asks are refused before one of them is answered: by `drive` itself, or for what is doubted of them
abbrev pub admitted : Bool → Option DriveRefusal → Shape → Result Bool ListedRefusal
admitted strict (Some e) t = Err (Drive e)
admitted strict None t = settle strict (doubt_of_asks t)

-- what they came to, unless that is doubted and refused
abbrev pub recorded : Bool → DriveOutput → Result DriveOutput ListedRefusal
recorded strict d = settle strict (doubt_of_drove d) >>= λ _. Ok d

-- what comes of asks that were admitted, or refused
abbrev pub IsAnswered : Result Bool ListedRefusal → Marked → Shape → Option Contents → ℕ → Bool → Bool → Result DriveOutput ListedRefusal → Type 0
IsAnswered (Err e) flags t before workers strict json r = r ≡ Err e
IsAnswered (Ok noted) flags t before workers strict json r =
    (d : Result DriveOutput DriveRefusal) × IsDriveOf flags (asks_of t) workers before json d × (r ≡ (refused_by Drive d >>= recorded strict))

-- what comes of the asks, where the document, the asks and the book before were read, each before the next
abbrev pub IsDriveOutputOf : Result Marked ListedRefusal → Result Shape ListedRefusal → Result (Option Contents) ListedRefusal → ℕ → Bool → Bool → Result DriveOutput ListedRefusal → Type 0
IsDriveOutputOf (Err e) asks before workers strict json r = r ≡ Err e
IsDriveOutputOf (Ok flags) (Err e) before workers strict json r = r ≡ Err e
IsDriveOutputOf (Ok flags) (Ok t) (Err e) workers strict json r = r ≡ Err e
IsDriveOutputOf (Ok flags) (Ok t) (Ok before) workers strict json r = IsAnswered (admitted strict (refusal_of (asks_of t) workers) t) flags t before workers strict json r

-- a new book that lacks inputs of the old one is refused
abbrev pub unless_lost : ℕ → Result (Unit {0}) ListedRefusal
unless_lost lost = if lost == 0 then Ok tt else Err (WouldLose lost)

-- whether a new book may be written over the one at a path: always where inputs may be lost, and else where none is
unfoldable pub replaces_at : Holding → List ℕ → Bool → Contents → Result (Unit {0}) ListedRefusal
replaces_at at book true new = Ok tt
replaces_at at book false new = refused_by Load (losses_at at book new) >>= unless_lost

-- The book is written before the output, and no other file changes; none does where it may not be written, or is refused to be. A person is told how many asks ended in what, and how many inputs they reached.
abbrev pub IsSaved : Result (Unit {0}) ListedRefusal → Holding → Option Holding → List ℕ → DriveOutput → Outcomes
IsSaved (Err e) at after book d r = (r ≡ Err e) × (after ≡ Some at)
IsSaved (Ok free) at after book d r = ((r ≡ beside true (done d.text)) × Stores (Some at) after book d.book × KeepsOthers (Some at) after book) ⊎ ((r ≡ Err unwritable) × (after ≡ Some at))

-- the same of the book that there is, where there is one
abbrev pub IsWritten : Holding → Option Holding → List ℕ → Bool → Result DriveOutput ListedRefusal → Outcomes
IsWritten at after book lossy (Err e) r = (r ≡ Err e) × (after ≡ Some at)
IsWritten at after book lossy (Ok d) r = (new : Contents) × (book_of d.book ≡ Ok new) × IsSaved (replaces_at at book lossy new) at after book d r

-- with `--add` the new book has all that the old one had
unfoldable pub IsDriveReport : Bool → Holding → Option Holding → List ℕ → List ℕ → ℕ → List ℕ → Bool → Bool → Bool → Bool → Outcomes
IsDriveReport floats at after path asks workers book add replace strict json r =
    (document : Result Marked ListedRefusal) × AreFlagsAt floats at path document × (d : Result DriveOutput ListedRefusal) × IsDriveOutputOf document (tree_at at asks max_text) (before_at at book add) workers strict json d × IsWritten at after book (add || replace) d r

-- the document and the asks of these files were read, of which nothing is doubted that is refused, and the book that is added to
abbrev pub AreRead : Bool → Holding → List ℕ → List ℕ → List ℕ → Bool → Bool → Type 0
AreRead floats at path asks book add strict =
    (flags : Marked) × AreFlagsAt floats at path (Ok flags) × (t : Shape) × (tree_at at asks max_text ≡ Ok t) × (is_some (asks_of t) ≡ true) × IsOk (settle strict (doubt_of_asks t))
    × (before : Option Contents) × (before_at at book add ≡ Ok before)

-- The files stay as they are; or the number of workers is right, the files were read, and the file of the book alone changes.
abbrev pub LeavesBook : Bool → Option Holding → Option Holding → List ℕ → List ℕ → ℕ → List ℕ → Bool → Bool → Type 0
LeavesBook floats old new path asks workers book add strict =
    (new ≡ old) ⊎ ((workers_refusal workers ≡ None) × IfSome old (λ at. AreRead floats at path asks book add strict) × KeepsOthers old new book)

-- the files stay as they are, or the command did what it was asked
abbrev pub KeepsUnlessDone : {E : Type 0} → Option Holding → Option Holding → Result Outcome E → Type 0
KeepsUnlessDone old new r = (new ≡ old) ⊎ IsOkAnd r (λ o. status_number o.status ≡ 0)

-- the file at a path has a tree that is no list of asks
abbrev pub HasNoAsks : Holding → List ℕ → Type 0
HasNoAsks at path = (t : Shape) × (tree_at at path max_text ≡ Ok t) × (asks_of t ≡ None)

-- the file at a path has asks with a member that is not read
abbrev pub HasUnreadAsk : Holding → List ℕ → Type 0
HasUnreadAsk at path = (t : Shape) × (tree_at at path max_text ≡ Ok t) × (has_unread_ask t ≡ true)

-- the command is refused, and where it is by `drive` itself, then by name and not for want of memory
abbrev pub IsRefusedByName : {X : Type 0} → Result X Refused → Type 0
IsRefusedByName r = IsErrAnd r (λ e. call_of e.refusal ≡ call.Drive → is_want e.refusal ≡ false)

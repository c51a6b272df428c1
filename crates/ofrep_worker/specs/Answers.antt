-- Recorded first: what a worker answers, and what its log then holds.
use Rattle.std.specs.Prelude.{◌≡◌, ◌<◌, ◌^◌, ◌⊎◌, ◌||◌, ◌++◌, ℕ, Bool, true, false, List, [], Option, Some, None, option_map, is_some, IfSome, Contains}
use Rattle.flag_defs.specs.Described.{described_by}
use Rattle.flag_defs.specs.Flags.{flags_view}
use Rattle.flag_defs.specs.Floats.{floats_view}
use Rattle.flag_defs.specs.declared.flags.Flags.{Flags}
use Rattle.http.specs.declared.request.Request.{Request}
use Rattle.http_server.specs.Response.{IsResponse}
use Rattle.http_server.specs.declared.response.Response.{Response}
use Rattle.log_file.specs.declared.file.LogFile.{Ghosts}
use Rattle.log_file.specs.declared.journal.Look.{Look}
use Rattle.note_lines.specs.Hashed.{line_as}
use Rattle.note_lines.specs.Note.{Noted}
use Rattle.note_lines.specs.declared.form.NoteForm.{NoteForm}
use Rattle.note_log.specs.Files.{StandsIn}
use Rattle.note_log.specs.Log.{Logged, Records, Wants, files_of, logged, logged_after, trouble_of}
use Rattle.note_log.specs.declared.log.NoteLog.{NoteLog}
use Rattle.note_log.specs.declared.trouble.Trouble.{Trouble}
use Rattle.ofrep_answers.specs.Answer.{Answered, answer_with}
use Rattle.ofrep_answers.specs.Metadata.{metadata_of}
use Rattle.ofrep_answers.specs.Request.{Asked}
use Rattle.ofrep_worker.specs.Asked.{asked_of}
use Rattle.ofrep_worker.specs.Notes.{notes_of}
use Rattle.ofrep_worker.specs.Sent.{Fails, GivesIn, Sends, TellsUnready, unready}
use Rattle.ofrep_worker.specs.declared.unrecorded.WithoutRecord.{WithoutRecord}
use Rattle.ofrep_worker.specs.declared.unrecorded.WithoutRecord.TheVariants.{Answer, Refuse}
use Rattle.snap_share.specs.Known.{IsReadOnce, Seat, last_of}

-- what a log was given, what its file shows, whether that stood at its path when it was last looked for, whether it is lost, and how many writes have failed
pub record Kept : Type 0 where
  pub logged : Logged
  pub bytes : Option (List ℕ)
  pub stands : Bool
  pub is_lost : Bool
  pub faults : ℕ

abbrev pub kept_of : {F : Type 0} {g : Ghosts F} → NoteLog F g → Kept
kept_of {F} {g} l = record {
  logged = logged l;
  bytes = g.bytes l.journal.journal.file;
  stands = g.stands l.journal.journal.file;
  is_lost = is_some l.journal.journal.lost;
  faults = g.faults l.journal.journal.file;
}

-- of the log of a worker that keeps one
abbrev pub kept_in : {F : Type 0} {g : Ghosts F} → Option (NoteLog F g) → Option Kept
kept_in log = option_map kept_of log

-- all the notes are recorded, in the log's file, which stood at its path, or in one that another log has open; where there are none the log stays as it is
abbrev pub AllRecorded : List Noted → Kept → Kept → Type 0
AllRecorded notes old new =
    ((notes ≡ []) × (new ≡ old)) ⊎ ((new.stands ≡ true) × (∥ Records notes old.logged new.logged old.bytes new.bytes true ∥₁))

-- the log was lost, or a write has failed
abbrev pub LogFails : Kept → Kept → Type 0
LogFails old new = (old.is_lost ≡ true) ⊎ (old.faults < new.faults)

-- what stands of the notes, where all were recorded and where not
abbrev pub RecordedFirst : Bool → List Noted → Kept → Kept → Type 0
RecordedFirst true notes old new = AllRecorded notes old new
RecordedFirst false notes old new = LogFails old new × (∥ Records notes old.logged new.logged old.bytes new.bytes false ∥₁)

-- what stands of the notes where a log is kept; where none is, nothing is recorded and nothing fails
abbrev pub RecordedIn : Bool → List Noted → Option Kept → Option Kept → Type 0
RecordedIn all notes (Some old) (Some new) = RecordedFirst all notes old new
RecordedIn all notes None None = all ≡ true
RecordedIn _ _ _ _ = ⊥

-- why the log can't be written, of a worker that keeps one
abbrev pub trouble_in : Option Kept → Option Trouble
trouble_in None = None
trouble_in (Some k) = trouble_of k.is_lost k.logged.waiting

-- what can't be recorded is answered all the same
abbrev pub is_answered : WithoutRecord → Bool
is_answered Answer = true
is_answered Refuse = false

-- the answer to a request, of flags with the metadata that they were given
abbrev pub answer_for : Flags → ℕ → Asked → Answered
answer_for flags moment asked = answer_with (metadata_of (described_by flags)) (flags_view flags, floats_view flags) moment asked

-- At some moment the response is the answer to the request, of these flags, and its notes were recorded. Or they were not, and the response tells that, unless what can't be recorded is answered. While a log can't be written, its own or another's, who asks whether the service is ready is told that it is not.
abbrev pub Answers : WithoutRecord → Flags → Request (List ℕ) → Response → Option Kept → Option Kept → Type 0
Answers without flags request response old new =
    (moment : ℕ) × (moment < 2 ^ 53) × (all : Bool) × (trouble : Option Trouble)
    × (is_some (trouble_in old) ≡ true → is_some trouble ≡ true)
    × GivesIn (unready trouble (asked_of request) (answer_for flags moment (asked_of request))) (all || is_answered without) (answer_for flags moment (asked_of request)) response
    × RecordedIn all (notes_of (flags_view flags) (answer_for flags moment (asked_of request))) old new

-- The seat is read once, and the answer is of the last of the published flags that it then knows.
abbrev pub RespondsFrom : WithoutRecord → Seat → Seat → Request (List ℕ) → Response → Option Kept → Option Kept → Type 0
RespondsFrom without seat seat' request response old new = (flags : Flags) × IsReadOnce seat seat' × (last_of seat'.known ≡ Some flags) × Answers without flags request response old new

-- So it answers; or memory ran out, and the response is empty: it tells nothing, and nothing is recorded.
abbrev pub Responds : WithoutRecord → Seat → Seat → Request (List ℕ) → Response → Option Kept → Option Kept → Type 0
Responds without seat seat' request response old new =
    RespondsFrom without seat seat' request response old new
    ⊎ (IsReadOnce seat seat' × IsResponse 500 [] [] response × (new ≡ old))

-- what waited is handed over as far as the file takes it
pub record HandsOver (old new : Logged) : Type 0 where
  pub more : List ℕ
  pub shown : List (List ℕ)
  pub form : new.form ≡ old.form
  pub earlier : new.earlier ≡ old.earlier
  pub handed : new.handed ≡ old.handed ++ more
  pub waiting : old.waiting ≡ more ++ new.waiting
  pub relied : new.relied ≡ old.relied ++ shown

-- what a look leaves of a log that is kept: it is found or begins anew, and then what waits for it is handed over
abbrev pub LooksIn : Option Kept → Option Kept → Type 0
LooksIn (Some old) (Some new) = (look : Look) × (∥ HandsOver (logged_after look old.logged) new.logged ∥₁)
LooksIn None None = Unit {0}
LooksIn _ _ = ⊥

-- how often the path of a log that is kept was looked for
abbrev pub looks_in : {F : Type 0} {g : Ghosts F} → Option (NoteLog F g) → Option ℕ
looks_in {F} {g} log = option_map (λ l. g.looks l.journal.journal.file) log

-- where a log is kept its path was looked for
abbrev pub Rises : Option ℕ → Option ℕ → Type 0
Rises (Some old) (Some new) = old < new
Rises None None = Unit {0}
Rises _ _ = ⊥

-- the form of the lines of a log, and what files were handed: its own, and those that it relied on
pub record Handed : Type 0 where
  pub form : NoteForm
  pub files : List (List ℕ)

abbrev pub handed_of : Kept → Handed
handed_of k = record { form = k.logged.form; files = files_of k.logged ++ k.logged.relied }

-- of a log that is kept
abbrev pub files : Option Kept → Option Handed
files log = option_map handed_of log

-- the line of each note that is to be recorded stands in what one of the files was handed
abbrev pub HaveLines : List Noted → Handed → Type 0
HaveLines notes handed = (note : Noted) → Wants notes note → StandsIn (line_as handed.form note) handed.files

-- The response is the answer to the request, of some of these flags.
pub record IsAnswer (known : List Flags) (request : Request (List ℕ)) (response : Response) : Type 0 where
  pub flags : Flags
  pub is_known : Contains known flags
  pub moment : ℕ
  pub is_moment : moment < 2 ^ 53
  pub sends : Sends (answer_for flags moment (asked_of request)) response

-- It is such an answer, and where a log is kept, the line of each of its notes, in the form of the log, stands in what one of these files was handed.
pub record RestsOn (known : List Flags) (handed : Option Handed) (request : Request (List ℕ)) (response : Response) : Type 0 where
  pub answer : IsAnswer known request response
  pub lines : IfSome handed (HaveLines (notes_of (flags_view answer.flags) (answer_for answer.flags answer.moment (asked_of request))))

-- the response tells a failure, or that the service is not ready, and nothing of flags
abbrev pub TellsNoFlag : Response → Type 0
TellsNoFlag response = Fails response ⊎ ((trouble : Trouble) × TellsUnready trouble response)

-- What a response rests on stands: it is such an answer, or it tells nothing of flags. Where what can't be recorded is answered it may be an answer without its notes.
abbrev pub Stands : WithoutRecord → List Flags → Option Handed → Request (List ℕ) → Response → Type 0
Stands without known handed request response =
    TellsNoFlag response ⊎ (∥ RestsOn known handed request response ∥₁) ⊎ ((is_answered without ≡ true) × (∥ IsAnswer known request response ∥₁))

-- What the command `record` comes to.
use Rattle.std.specs.Prelude.{◌≡◌, ◌<◌, ◌⊎◌, ℕ, nat_lt, Bool, true, false, List, length, Option, Some, Result, Ok, Err, codes}
use Rattle.std.specs.Io.KnownBytes.{Appends}
use Rattle.std.specs.Map.{lookup}
use Rattle.std.specs.Str.{bytes_eq}
use Rattle.flag_text.specs.Outlet.{AppendsPart}
use Rattle.flag_defs.specs.Document.{Definitions}
use Rattle.flagops_files.specs.Documents.{IsDocumentAs}
use Rattle.flagops_shell.specs.Console.{Shown}
use Rattle.flagops_shell.specs.Files.{Holding}
use Rattle.flagops_files.specs.declared.refusal.Refusal.{Refusal}
use Rattle.note_streams.specs.Recorded.{most_bytes, recorded_of}
use Rattle.note_streams.specs.declared.stop.RecordStop.TheVariants.{Line, Unreadable, TooLong}
use Rattle.note_streams.specs.Record.{IsSceneOf, Recorded, Scene}
use Rattle.note_streams.specs.Refusal.{refusal_for}
use Rattle.note_streams.specs.declared.recorder.RecordFault.{RecordFault}
use Rattle.note_streams.specs.declared.recorder.RecordFault.TheVariants as recording
use Rattle.rollout.specs.declared.fault.RolloutFault.{RolloutFault}
use Rattle.rollout.specs.declared.fault.RolloutFault.TheVariants as rollout
use Rattle.flagops_filters.specs.Refusal.{is_unread}
use Rattle.flagops_filters.specs.Beside.{PutsNoted}
use Rattle.flagops_filters.specs.Remarks.{NamesInput, NamesPath}
use Rattle.flagops_filters.specs.Start.{moment_of, start_of}
use Rattle.flagops_filters.specs.Words.{Recording}
use Rattle.flagops_filters.specs.Writing.{After, AfterPart, Refuses, Wants}
use Rattle.flagops_filters.specs.declared.start.Start.{Start}
use Rattle.flagops_filters.specs.declared.refusal.FilterRefusal.TheVariants.{Load, Flag, Record}

-- a flag that is not recorded is refused as `plan` refuses it: unknown, or without sites as it is broken
abbrev pub of_record : RecordFault → RolloutFault
of_record recording.WantOfMemory = rollout.WantOfMemory
of_record recording.UnknownFlag = rollout.UnknownFlag
of_record recording.Broken = rollout.NoSite

abbrev pub record_call : List ℕ
record_call = codes "record"

module _ (old new : Shown) (status : ℕ) where
  -- a front of a text was written, where a write failed; nothing is told
  abbrev pub BreaksOff : List ℕ → Type 0
  BreaksOff text = AppendsPart old.printed new.printed text × (new.is_broken ≡ true) × (status ≡ 1) × (new.reported ≡ old.reported)

  -- the whole text was written, and a person is told of the start, of what came of the contexts, and what was passed over of these bytes: some
  -- inputs just where one is too long to be noted
  abbrev pub Ends : Recorded → Start → List ℕ → Type 0
  Ends r start bytes =
      Appends old.printed new.printed r.text × (new.is_broken ≡ false) × (status ≡ 0)
      × ((long : ℕ) × (nat_lt 0 long ≡ r.outcomes.long) × PutsNoted start bytes r.outcomes long old.reported new.reported new.is_mute)

  -- Of what is recorded of a stream of these bytes: all its lines; or those up to the line that is no context, whose number is told;
  -- or a front of them, where a write or a read failed, the stream is too long or memory ran out.
  abbrev pub RecordEnds : Recorded → Start → List ℕ → Bool → Type 0
  RecordEnds r start bytes is_cut =
      ((r.refused ≡ false) × Ends r start bytes)
      ⊎ ((r.refused ≡ true) × After old r.text (λ mid. Refuses mid new status NamesInput (Record (Line r.lines))))
      ⊎ BreaksOff r.text
      ⊎ ((is_cut ≡ true) × AfterPart old r.text (λ mid. Refuses mid new status NamesInput (Record Unreadable)))
      ⊎ ((most_bytes < length bytes) × AfterPart old r.text (λ mid. Refuses mid new status NamesInput (Record TooLong)))
      ⊎ AfterPart old r.text (λ mid. Wants mid new status record_call)

  -- of a flag of these flags, which a document at a path has, at the moment that is asked for, if there is one, over a stream of these
  -- bytes, where the clock shows this second
  abbrev pub RecordOver : List ℕ → Definitions → List ℕ → Option ℕ → ℕ → List ℕ → Bool → Type 0
  RecordOver path flags key asked now bytes is_cut =
      ((s : Scene) × IsSceneOf flags key (moment_of asked (start_of flags key asked now)) s × RecordEnds (recorded_of s bytes) (start_of flags key asked now) bytes is_cut)
      ⊎ ((fault : RecordFault) × (refusal_for (lookup (bytes_eq key) flags) ≡ Some fault) × Refuses old new status (NamesPath path) (Flag (of_record fault)))
      ⊎ Wants old new status record_call

  -- of what was read as a document; it cannot be read only where a call has failed
  abbrev pub RecordIn : Bool → List ℕ → Result Definitions Refusal → List ℕ → Option ℕ → ℕ → List ℕ → Bool → Type 0
  RecordIn has_failed path (Err e) key asked now bytes is_cut = Refuses old new status (NamesPath path) (Load e) × (is_unread (Load e) ≡ true → has_failed ≡ true)
  RecordIn has_failed path (Ok flags) key asked now bytes is_cut = RecordOver path flags key asked now bytes is_cut

  -- of the document at a path
  abbrev pub RecordAnswers : Holding → Bool → Recording → ℕ → List ℕ → Bool → Type 0
  RecordAnswers at has_failed a now bytes is_cut =
      ((document : Result Definitions Refusal) × IsDocumentAs a.floats at a.document document × RecordIn has_failed a.document document a.key a.moment now bytes is_cut)
      ⊎ Wants old new status record_call

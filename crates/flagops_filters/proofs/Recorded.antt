-- What `record` came to, as the console shows it.
use Rattle.std.proofs.Common.{◌≡◌, ◌≢◌, true, false, ℕ, Bool, List, length, Option, None, Some, IfSome, Ok, Err, refl, ap, ◌∙◌, subst, sym, inl, inr, arith}
use Rattle.std.proofs.Math.Seq.{take-length}
use Rattle.std.specs.Io.KnownBytes.{Appends}
use Rattle.std.specs.Map.{lookup}
use Rattle.std.specs.Str.{bytes_eq}
use Rattle.flag_text.specs.Outlet.{AppendsPart}
use Rattle.flag_defs.specs.Document.{Definitions}
use Rattle.flag_defs.specs.Flags.{flags_view}
use Rattle.flagops_files.specs.Documents.{IsDocumentAs}
use Rattle.flagops_files.specs.Refusal as files
use Rattle.flagops_files.specs.Refusal.{Refused}
use Rattle.file_diagnostics.specs.Named.{Names}
use Rattle.flagops_shell.specs.Console.{Shown}
use Rattle.flagops_shell.specs.Diagnostic.{Says}
use Rattle.flagops_shell.specs.Ending.{ShowsRefusal}
use Rattle.flagops_shell.specs.Files.{Holding}
use Rattle.note_streams.specs.Recorded.{RecordsStream, TellsOf, recorded_of}
use Rattle.note_streams.specs.Rest.{is_empty, is_torn}
use Rattle.note_streams.specs.declared.recording.Counted.{Counted}
use Rattle.note_streams.specs.declared.stop.RecordStop.{RecordStop}
use Rattle.note_streams.specs.declared.stop.RecordStop.TheVariants.{WantOfMemory, Line, Unreadable, TooLong, Broken}
use Rattle.note_streams.specs.Outcomes.{Outcomes}
use Rattle.note_streams.specs.Record.{IsSceneOf, Scene}
use Rattle.note_streams.specs.Refusal.{refusal_for}
use Rattle.note_streams.specs.View.{outcomes_view}
use Rattle.note_streams.specs.declared.recorder.RecordFault.{RecordFault}
use Rattle.note_streams.specs.declared.recorder.RecordFault.TheVariants as recording
use Rattle.flagops_filters.specs.Record.{RecordAnswers, RecordEnds, RecordOver, of_record, record_call}
use Rattle.flagops_filters.specs.Refusal.{is_unread, is_want, line_of}
use Rattle.flagops_filters.specs.Beside.{PutsIf, PutsNoted, is_noted, record_lines}
use Rattle.flagops_filters.specs.Remarks.{NamesInput, NamesPath}
use Rattle.flagops_filters.specs.Report.{Told}
use Rattle.flagops_filters.specs.Start.{moment_of, start_of}
use Rattle.flagops_filters.specs.Stopping.{GivesUp, is_broken_off}
use Rattle.flagops_filters.specs.Words.{Recording}
use Rattle.flagops_filters.specs.Writing.{Refuses, RefusesOrWants, with_output}
use Rattle.flagops_filters.specs.declared.refusal.FilterRefusal.{FilterRefusal}
use Rattle.flagops_filters.specs.declared.start.Start.{Start}
use Rattle.flagops_filters.specs.declared.refusal.FilterRefusal.TheVariants.{Load, Flag, Record}
use Rattle.flagops_filters.proofs.Ending.{not_both, refused_so}
use Rattle.flagops_filters.proofs.Naming.{loaded_named}

whole_part : (old new : Option (List ℕ)) (text : List ℕ) → Appends old new text → AppendsPart old new text
whole_part old new text is = (length text, omega arith, subst (Appends old new) (sym (take-length text)) is)

-- what is written of a stream that stopped, by whether the output has failed
module _ (old new : Shown) (status : ℕ) (stop : RecordStop) where
  pub given_up : (t : Told) → is_broken_off stop ≡ false → t.refusal ≡ Record stop → Says NamesInput t.remark → ShowsRefusal old new status is_want line_of record_call t.refusal t.remark → GivesUp old new status stop (is_broken_off stop)
  given_up t whole is says shows = subst (GivesUp old new status stop) (sym whole) (refused_so old new status record_call NamesInput t.refusal (Record stop) t.remark shows is (λ no_want. says))

pub given_quietly : (old : Shown) (stop : RecordStop) → old.is_broken ≡ is_broken_off stop → is_broken_off stop ≡ true → GivesUp old old 1 stop (is_broken_off stop)
given_quietly old stop same broken = subst (GivesUp old old 1 stop) (sym broken) (refl, same ∙ broken, refl, refl)

module _ (old new : Shown) (status : ℕ) where
  -- ---- a stream

  module _ (s : Scene) (start : Start) (is_cut : Bool) where
    abbrev Came : Option (List ℕ) → Type 0
    Came given = IfSome given (λ bytes. RecordEnds old new status (recorded_of s bytes) start bytes is_cut)

    -- the lines on what was counted are told
    abbrev TellsCounted : Counted → Type 0
    TellsCounted c = PutsIf (is_noted start c.empty (outcomes_view c.outcomes) c.outcomes.long c.torn) (record_lines start c.empty (outcomes_view c.outcomes) c.outcomes.long c.torn) old.reported new.reported new.is_mute

    told_of : (bytes : List ℕ) (c : Counted) → TellsOf (recorded_of s bytes) bytes c → TellsCounted c → PutsNoted start bytes (recorded_of s bytes).outcomes c.outcomes.long old.reported new.reported new.is_mute
    told_of bytes c tells notes =
        let long = c.outcomes.long in
        let puts : Bool → Outcomes → Bool → Type 0 = λ empty o torn. PutsIf (is_noted start empty o long torn) (record_lines start empty o long torn) old.reported new.reported new.is_mute in
        subst (λ (o : Outcomes). puts (is_empty bytes) o (is_torn bytes)) tells.0
        (subst (λ (torn : Bool). puts (is_empty bytes) (outcomes_view c.outcomes) torn) tells.1
        (subst (λ (empty : Bool). puts empty (outcomes_view c.outcomes) c.torn) tells.2 notes))

    pub all_recorded : (given : Option (List ℕ)) (counted : Counted) → IfSome given (λ bytes. RecordsStream (recorded_of s bytes) (length bytes) is_cut old.printed new.printed (Ok counted)) → IfSome given (λ bytes. TellsOf (recorded_of s bytes) bytes counted)
        → new.is_broken ≡ false → status ≡ 0 → TellsCounted counted → Came given
    all_recorded None counted records tells whole done notes = tt
    all_recorded (Some bytes) counted records tells whole done notes = inl (records.0, (records.1, whole, done, (counted.outcomes.long, ap (λ (o : Outcomes). o.long) tells.0, told_of bytes counted tells notes)))

    module _ (mid : Option (List ℕ)) where
      abbrev Then : FilterRefusal → Type 0
      Then refusal = RefusesOrWants (with_output old mid) new status record_call NamesInput refusal

      abbrev Records : List ℕ → RecordStop → Type 0
      Records bytes stop = RecordsStream (recorded_of s bytes) (length bytes) is_cut old.printed mid (Err stop)

      wanted : (bytes : List ℕ) → Records bytes WantOfMemory → Then (Record WantOfMemory) → Came (Some bytes)
      wanted bytes records (inl ends) = absurd (not_both true refl ends.0)
      wanted bytes records (inr ends) = inr (inr (inr (inr (inr (mid, records, ends)))))

      stopped_line : (bytes : List ℕ) (n : ℕ) → Records bytes (Line n) → Then (Record (Line n)) → Came (Some bytes)
      stopped_line bytes n records (inl ends) =
          inr (inl (records.0, (mid, records.2, subst (λ (k : ℕ). Refuses (with_output old mid) new status NamesInput (Record (Line k))) (sym records.1) ends.1)))
      stopped_line bytes n records (inr ends) = inr (inr (inr (inr (inr (mid, whole_part old.printed mid (recorded_of s bytes).text records.2, ends)))))

      unread : (bytes : List ℕ) → Records bytes Unreadable → Then (Record Unreadable) → Came (Some bytes)
      unread bytes records (inl ends) = inr (inr (inr (inl (records.0, (mid, records.1, ends.1)))))
      unread bytes records (inr ends) = inr (inr (inr (inr (inr (mid, records.1, ends)))))

      too_long : (bytes : List ℕ) → Records bytes TooLong → Then (Record TooLong) → Came (Some bytes)
      too_long bytes records (inl ends) = inr (inr (inr (inr (inl (records.0, (mid, records.1, ends.1))))))
      too_long bytes records (inr ends) = inr (inr (inr (inr (inr (mid, records.1, ends)))))

      broke_off : (bytes : List ℕ) → Records bytes Broken → (new.printed ≡ mid) × (new.is_broken ≡ true) × (status ≡ 1) × (new.reported ≡ old.reported) → Came (Some bytes)
      broke_off bytes records quiet =
          let part : AppendsPart old.printed new.printed (recorded_of s bytes).text = subst (λ (o : Option (List ℕ)). AppendsPart old.printed o (recorded_of s bytes).text) (sym quiet.0) records in
          inr (inr (inl (part, quiet.1, quiet.2, quiet.3)))

      -- the console in between, whose error output is as it was
      pub gave_up : (given : Option (List ℕ)) (stop : RecordStop) (is_broken : Bool) → IfSome given (λ bytes. Records bytes stop)
          → GivesUp (record { printed = mid; is_broken = is_broken; reported = old.reported; is_mute = old.is_mute }) new status stop (is_broken_off stop) → Came given
      gave_up None stop is_broken records gives = tt
      gave_up (Some bytes) WantOfMemory is_broken records gives = wanted bytes records gives
      gave_up (Some bytes) (Line n) is_broken records gives = stopped_line bytes n records gives
      gave_up (Some bytes) Unreadable is_broken records gives = unread bytes records gives
      gave_up (Some bytes) TooLong is_broken records gives = too_long bytes records gives
      gave_up (Some bytes) Broken is_broken records gives = broke_off bytes records gives

  -- ---- a flag

  module _ (path : List ℕ) (flags : Definitions) (key : List ℕ) (asked : Option ℕ) (now : ℕ) (is_cut : Bool) where
    pub over_scene : (s : Scene) (given : Option (List ℕ)) → IsSceneOf flags key (moment_of asked (start_of flags key asked now)) s → Came s (start_of flags key asked now) is_cut given
        → IfSome given (λ bytes. RecordOver old new status path flags key asked now bytes is_cut)
    over_scene s None scene came = tt
    over_scene s (Some bytes) scene came = inl (s, scene, came)

    not_recorded : (bytes : List ℕ) (fault : RecordFault) → (fault ≢ recording.WantOfMemory → refusal_for (lookup (bytes_eq key) flags) ≡ Some fault)
        → RefusesOrWants old new status record_call (NamesPath path) (Flag (of_record fault)) → RecordOver old new status path flags key asked now bytes is_cut
    not_recorded bytes fault refused (inl ends) =
        let other : fault ≢ recording.WantOfMemory = λ want. not_both (is_want (Flag (of_record fault))) (ap (λ (f : RecordFault). is_want (Flag (of_record f))) want) ends.0 in
        inr (inl (fault, refused other, ends.1))
    not_recorded bytes fault refused (inr ends) = inr (inr ends)

    pub unrecorded : (given : Option (List ℕ)) (fault : RecordFault) (t : Told) → (fault ≢ recording.WantOfMemory → refusal_for (lookup (bytes_eq key) flags) ≡ Some fault) → t.refusal ≡ Flag (of_record fault) → Says (NamesPath path) t.remark
        → ShowsRefusal old new status is_want line_of record_call t.refusal t.remark → IfSome given (λ bytes. RecordOver old new status path flags key asked now bytes is_cut)
    unrecorded None fault t refused is says shows = tt
    unrecorded (Some bytes) fault t refused is says shows =
        not_recorded bytes fault refused (refused_so old new status record_call (NamesPath path) t.refusal (Flag (of_record fault)) t.remark shows is (λ no_want. says))

  -- ---- a document

  module _ (a : Recording) (now : ℕ) (is_cut has_failed : Bool) where
    abbrev Answer : Option Holding → Option (List ℕ) → Type 0
    Answer holding given = IfSome holding (λ at. IfSome given (λ bytes. RecordAnswers old new status at has_failed a now bytes is_cut))

    pub over_document : (holding : Option Holding) (given : Option (List ℕ)) (flags : Definitions) → IfSome holding (λ at. IsDocumentAs a.floats at a.document (Ok flags))
        → IfSome given (λ bytes. RecordOver old new status a.document flags a.key a.moment now bytes is_cut) → Answer holding given
    over_document None given flags document over = tt
    over_document (Some at) None flags document over = tt
    over_document (Some at) (Some bytes) flags document over = inl (Ok flags, document, over)

    no_document : (at : Holding) (bytes : List ℕ) (e : Refused) → files.GivesOne flags_view (Err e) (IsDocumentAs a.floats at a.document) → (is_unread (Load e.refusal) ≡ true → has_failed ≡ true)
        → RefusesOrWants old new status record_call (NamesPath a.document) (Load e.refusal) → RecordAnswers old new status at has_failed a now bytes is_cut
    no_document at bytes e document fails (inl ends) = inl (Err e.refusal, document ends.0, (ends.1, fails))
    no_document at bytes e document fails (inr ends) = inr ends

    pub unloaded : (holding : Option Holding) (given : Option (List ℕ)) (e : Refused) (t : Told) → IfSome holding (λ at. files.GivesOne flags_view (Err e) (IsDocumentAs a.floats at a.document)) → t.refusal ≡ Load e.refusal → t.remark ≡ e.remark
        → (files.is_want e.refusal ≡ false → Says (Names a.document) e.remark) → (files.is_unread e.refusal ≡ true → has_failed ≡ true)
        → ShowsRefusal old new status is_want line_of record_call t.refusal t.remark → Answer holding given
    unloaded None given e t document is same names fails shows = tt
    unloaded (Some at) None e t document is same names fails shows = tt
    unloaded (Some at) (Some bytes) e t document is same names fails shows =
        no_document at bytes e document fails (refused_so old new status record_call (NamesPath a.document) t.refusal (Load e.refusal) t.remark shows is (loaded_named a.document e t is same names))

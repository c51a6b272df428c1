-- What a command writes and ends with, by whatever it may be refused: by which of its refusals are want of memory, and by their lines.
use Rattle.std.specs.Prelude.{◌≡◌, ◌⊎◌, ℕ, Bool, true, false, List, Option, Some, Result, Ok, Err, IsOkAnd}
use Rattle.flagops_shell.specs.Console.{Shown}
use Rattle.flagops_shell.specs.Diagnostic.{PutsRemark}
use Rattle.flagops_shell.specs.Files.{Holding}
use Rattle.flagops_shell.specs.Report.{IsFileLine, Report, ShowsReport, outcome_view, refusal_report, report_by, status_number, want_line_of}
use Rattle.flagops_shell.specs.declared.outcome.Outcome.{Outcome}
use Rattle.flagops_shell.specs.declared.refused.Refused.{Refused}
use Rattle.flagops_shell.specs.declared.refused.Remark.{Remark}

-- the files stay as they are, or the command ends with one of these statuses
abbrev pub KeepsUnless : {E : Type 0} → (ℕ → Type 0) → Option Holding → Option Holding → Result Outcome E → Type 0
KeepsUnless IsDone old new r = (new ≡ old) ⊎ IsOkAnd r (λ o. IsDone (status_number o.status))

-- the files stay as they are, or the command did what it was asked
abbrev pub KeepsUnlessDone : {E : Type 0} → Option Holding → Option Holding → Result Outcome E → Type 0
KeepsUnlessDone old new r = KeepsUnless (λ status. status ≡ 0) old new r

-- a file could not be read or written, by which of the refusals are of one
abbrev pub is_file_fault : {X R : Type 0} → (R → Bool) → Result X (Refused R) → Bool
is_file_fault is_unread (Ok x) = false
is_file_fault is_unread (Err t) = is_unread t.refusal

-- the same of what a command came to
abbrev pub IsUnread : {X R : Type 0} → (R → Bool) → Result X R → Type 0
IsUnread is_unread (Ok x) = ⊥
IsUnread is_unread (Err e) = is_unread e ≡ true

-- of what was come to a person is told this
abbrev pub Remarks : {R : Type 0} → (R → Bool) → (Result Report R → Remark → Type 0) → Result Outcome (Refused R) → Type 0
Remarks is_want MayTell (Ok o) = (remark : Remark) → o.remark ≡ Some remark → MayTell (Ok (outcome_view o)) remark
Remarks is_want MayTell (Err t) = is_want t.refusal ≡ false → MayTell (Err t.refusal) t.remark

module _ (old new : Shown) (status : ℕ) where
  -- What was come to is reported, and what a person is told of it is one of these remarks.
  abbrev pub ShowsOne : {R : Type 0} → (R → List ℕ) → (Result Report R → Remark → Type 0) → Result Report R → Type 0
  ShowsOne line_of MayTell r =
      ShowsReport old new status (report_by line_of r)
      × ((report_by line_of r).is_told ≡ true → (remark : Remark) × MayTell r remark × PutsRemark old.reported new.reported new.is_mute (Some remark))

  -- one of these calls, by name, ran out of memory, which is reported
  abbrev pub ShowsWant : (List ℕ → Type 0) → Type 0
  ShowsWant MayWant = (name : List ℕ) × MayWant name × ShowsReport old new status (refusal_report (want_line_of name))

  -- one of these outcomes is reported, or one of these calls ran out of memory
  abbrev pub Ends : {R : Type 0} → (R → List ℕ) → (List ℕ → Type 0) → (Result Report R → Remark → Type 0) → (Result Report R → Type 0) → Type 0
  Ends line_of MayWant MayTell MayCome = ((r : Result Report _) × MayCome r × ShowsOne line_of MayTell r) ⊎ ShowsWant MayWant

  -- a file that could not be read or written is reported by one of the two lines of such a refusal
  abbrev pub ShowsUnread : (List ℕ → Type 0) → Type 0
  ShowsUnread MayWant = ((line : List ℕ) × IsFileLine line × ShowsReport old new status (refusal_report line)) ⊎ ShowsWant MayWant

  -- a refusal is reported by its line, and told by its remark; or memory ran out, which is reported of the call of this name
  abbrev pub ShowsRefusal : {R : Type 0} → (R → Bool) → (R → List ℕ) → List ℕ → R → Remark → Type 0
  ShowsRefusal is_want line_of call e remark =
      ((is_want e ≡ false) × ShowsReport old new status (refusal_report (line_of e)) × PutsRemark old.reported new.reported new.is_mute (Some remark))
      ⊎ ShowsReport old new status (refusal_report (want_line_of call))

  -- a command that ends with one of these statuses is reported
  abbrev pub ShowsDone : (ℕ → Type 0) → Type 0
  ShowsDone IsDone = (report : Report) × IsDone report.status × ShowsReport old new status report

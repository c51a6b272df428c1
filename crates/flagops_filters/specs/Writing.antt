-- What a filter writes after what it has written before.
use Rattle.std.specs.Prelude.{◌≡◌, ◌⊎◌, ℕ, List, Option, Some, false}
use Rattle.std.specs.Io.KnownBytes.{Appends}
use Rattle.flag_text.specs.Outlet.{AppendsPart}
use Rattle.flagops_shell.specs.Console.{Shown}
use Rattle.flagops_shell.specs.Diagnostic.{PutsRemark, Says}
use Rattle.flagops_shell.specs.Report.{ShowsReport, refusal_report, want_line_of}
use Rattle.flagops_shell.specs.declared.refused.Remark.{Remark}
use Rattle.flagops_filters.specs.Refusal.{is_want, line_of}
use Rattle.flagops_filters.specs.declared.refusal.FilterRefusal.{FilterRefusal}

-- the console where its output has these bytes
abbrev pub with_output : Shown → Option (List ℕ) → Shown
with_output s printed = record { printed = printed; is_broken = s.is_broken; reported = s.reported; is_mute = s.is_mute }

module _ (old new : Shown) (status : ℕ) where
  -- a refusal is reported by its line, and a person is told such lines
  abbrev pub Refuses : (List ℕ → Type 0) → FilterRefusal → Type 0
  Refuses MaySay e =
      ShowsReport old new status (refusal_report (line_of e)) × ((remark : Remark) × Says MaySay remark × PutsRemark old.reported new.reported new.is_mute (Some remark))

  -- a call of this name ran out of memory, which is reported
  abbrev pub Wants : List ℕ → Type 0
  Wants name = ShowsReport old new status (refusal_report (want_line_of name))

  -- the one or the other
  abbrev pub RefusesOrWants : List ℕ → (List ℕ → Type 0) → FilterRefusal → Type 0
  RefusesOrWants name MaySay e = ((is_want e ≡ false) × Refuses MaySay e) ⊎ Wants name

-- a text was written, and then this
abbrev pub After : Shown → List ℕ → (Shown → Type 0) → Type 0
After old text Then = (mid : Option (List ℕ)) × Appends old.printed mid text × Then (with_output old mid)

-- a front of a text was written, and then this
abbrev pub AfterPart : Shown → List ℕ → (Shown → Type 0) → Type 0
AfterPart old text Then = (mid : Option (List ℕ)) × AppendsPart old.printed mid text × Then (with_output old mid)

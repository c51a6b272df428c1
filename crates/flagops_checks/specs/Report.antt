-- What the command `check` comes to.
use Rattle.std.specs.Prelude.{◌≡◌, ℕ, Bool, ◌&&◌, List, if◌then◌else◌, Result, Ok, Err}
use Rattle.flagops_checks.specs.Documents.{AreChecked}
use Rattle.flagops_checks.specs.Judged.{Checked, are_wrong}
use Rattle.flagops_checks.specs.Printed.{form_of, report_text}
use Rattle.flagops_checks.specs.Told.{TellsAll, check_attempts}
use Rattle.flagops_checks.specs.Words.{Checking}
use Rattle.flagops_checks.specs.declared.form.Form.{Form}
use Rattle.flagops_shell.specs.Files.{Holding}
use Rattle.flagops_shell.specs.Outcomes.{◌>>=◌}
use Rattle.flagops_checks.specs.Refusal.{Outcomes, Remarks}
use Rattle.flagops_shell.specs.Report.{Report}
use Rattle.flagops_files.specs.Told.{NamesFirst}
use Rattle.flagops_shell.specs.Diagnostic.{Says}
use Rattle.flagops_checks.specs.declared.refusal.CheckRefusal.{CheckRefusal}

-- with `--strict` this is no success
abbrev pub check_status : Bool → Bool → ℕ
check_status strict wrong = if strict && wrong then 1 else 0

-- what is printed of them; a person is told beside it where something is wrong
abbrev pub check_report : Bool → Form → List Checked → Result Report CheckRefusal
check_report strict form cs = Ok (record { text = report_text form cs; status = check_status strict (are_wrong cs); is_told = are_wrong cs })

unfoldable pub IsCheckReport : Holding → Checking → Outcomes
IsCheckReport at c r = (cs : Result (List Checked) CheckRefusal) × AreChecked c.floats at c.documents cs × (r ≡ (cs >>= check_report c.strict (form_of c.json c.floats c.documents)))

-- ---- what is told

-- of the documents at the paths
unfoldable pub TellsChecked : Holding → Checking → List ℕ → Type 0
TellsChecked at c lines = (cs : List Checked) × AreChecked c.floats at c.documents (Ok cs) × TellsAll (form_of c.json c.floats c.documents) cs lines

-- of a refusal the name of the first document that is refused, and else what is broken and what is doubted
abbrev pub remark_of : Holding → Checking → Remarks
remark_of at c (Ok report) remark = Says (TellsChecked at c) remark
remark_of at c (Err e) remark = NamesFirst (check_attempts c.floats at c.documents) e remark

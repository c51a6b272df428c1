-- What the program holds of the documents that it has checked, in private contracts alone.
use Rattle.std.specs.Prelude.{◌≡◌, ◌||◌, ℕ, true, false, List, ◌++◌, Result, Ok, Err, string_bytes}
use Rattle.flagops_checks.specs.Judged.{Checked, are_wrong, has_broken, has_doubted}
use Rattle.flagops_checks.specs.Printed.{document_text, report_text}
use Rattle.flagops_checks.specs.Told.{TellsAll, TellsDocument}
use Rattle.flagops_checks.specs.declared.form.Form.{Form}
use Rattle.flagops_checks.specs.declared.gathering.Gathered.{Gathered}
use Rattle.flagops_checks.specs.declared.remark_lines.RemarkLines.{RemarkLines}
use Rattle.flagops_checks.specs.Refusal.{is_want, Refused}
use Rattle.flagops_checks.specs.declared.refusal.CheckRefusal.{CheckRefusal}
use Rattle.flagops_shell.specs.declared.refused.Remark.{Remark}
use Rattle.flagops_shell.specs.declared.refused.Remark.TheVariants.{Lines, Short}

-- what is told of these documents, where there was memory for it
abbrev pub HoldsLines : Form → List Checked → RemarkLines → Type 0
HoldsLines form cs t = t.is_short ≡ false → TellsAll form cs (string_bytes t.lines)

-- with the lines of a document behind those before
abbrev pub AddsLines : Form → Checked → RemarkLines → RemarkLines → Type 0
AddsLines form c before after = after.is_short ≡ false → (before.is_short ≡ false) × (more : List ℕ) × TellsDocument form c more × (string_bytes after.lines ≡ string_bytes before.lines ++ more)

-- a remark has these lines, or memory ran out for some
abbrev pub Speaks : RemarkLines → Remark → Type 0
Speaks t Short = t.is_short ≡ true
Speaks t (Lines lines) = (t.is_short ≡ false) × (lines ≡ t.lines)

-- what is printed and told of these documents
pub record Holds (form : Form) (cs : List Checked) (g : Gathered) : Type 0 where
  pub text : g.text.items ≡ report_text form cs
  pub wrong : g.is_wrong ≡ are_wrong cs
  pub told : HoldsLines form cs g.told

-- a document more
pub record Adds (form : Form) (c : Checked) (before after : Gathered) : Type 0 where
  pub text : after.text.items ≡ before.text.items ++ document_text form c.path c.flags
  pub wrong : after.is_wrong ≡ (before.is_wrong || (has_broken c || has_doubted c))
  pub told : AddsLines form c before.told after.told

-- what was returned is what is printed and told of such documents, unless memory ran out
abbrev pub GivesAll : Form → Result Gathered Refused → (Result (List Checked) CheckRefusal → Type 0) → Type 0
GivesAll form (Ok g) Wanted = (cs : List Checked) × Wanted (Ok cs) × Holds form cs g
GivesAll form (Err e) Wanted = is_want e.refusal ≡ false → Wanted (Err e.refusal)

-- the same of a document more
abbrev pub GivesNext : Form → Gathered → Result Gathered Refused → (Result Checked CheckRefusal → Type 0) → Type 0
GivesNext form before (Ok g) Wanted = (c : Checked) × Wanted (Ok c) × Adds form c before g
GivesNext form before (Err e) Wanted = is_want e.refusal ≡ false → Wanted (Err e.refusal)

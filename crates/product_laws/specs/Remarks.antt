-- The same of what a person is told beside the output of `compare` and of `check`.
use Rattle.std.specs.Prelude.{Bool, Result}
use Rattle.flagops_checks.specs.Report as checks
use Rattle.flagops_checks.specs.Words.{Checking}
use Rattle.flagops_checks.specs.declared.refusal.CheckRefusal.{CheckRefusal}
use Rattle.flagops_compare.specs.Report as compare
use Rattle.flagops_compare.specs.Words.{Comparing}
use Rattle.flagops_shell.specs.Files.{Holding}
use Rattle.flagops_shell.specs.Report.{Report}
use Rattle.flagops_shell.specs.declared.refused.Remark.{Remark}
use Rattle.product_laws.specs.Whole.{AreWholeAt, IsWholeAt}

-- of `compare`
abbrev pub CompareRemarksStay : Type 0
CompareRemarksStay =
    (other : Bool) (at : Holding) (a : Comparing) (r : compare.Came) (remark : Remark) → IsWholeAt at a.old → IsWholeAt at a.new → compare.remark_of at a r remark → compare.remark_of at (record a { floats = other }) r remark

-- of `check`
abbrev pub CheckRemarksStay : Type 0
CheckRemarksStay = (other : Bool) (at : Holding) (c : Checking) (r : Result Report CheckRefusal) (remark : Remark) → AreWholeAt at c.documents → checks.remark_of at c r remark → checks.remark_of at (record c { floats = other }) r remark

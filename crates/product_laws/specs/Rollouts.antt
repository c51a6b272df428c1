-- That `--floats` changes nothing of a rollout on a document whose numbers are all whole: what is reported with the option or without it may be reported without it or with it.
use Rattle.std.specs.Prelude.{ℕ, Bool, List, Option, Result}
use Rattle.flagops_compare.specs.Report as compare
use Rattle.flagops_compare.specs.Report.{IsCompareReport}
use Rattle.flagops_compare.specs.Words.{Comparing}
use Rattle.flagops_rollouts.specs.Apply.{IsApplyReport}
use Rattle.flagops_rollouts.specs.Plan.{IsPlanReport}
use Rattle.flagops_rollouts.specs.Verify.{IsVerifyReport}
use Rattle.flagops_rollouts.specs.declared.refusal.RolloutRefusal.{RolloutRefusal}
use Rattle.flagops_shell.specs.Files.{Holding}
use Rattle.flagops_shell.specs.Report.{Report}
use Rattle.product_laws.specs.Whole.{IsWholeAt}

-- what a command on rollouts comes to
abbrev pub Came : Type 0
Came = Result Report RolloutRefusal

-- of `plan`
abbrev pub PlansStay : Type 0
PlansStay =
    (floats other : Bool) (at : Holding) (document request book : List ℕ) (refine : Option ℕ) (strict explain : Bool) (r : Came) → IsWholeAt at document
    → IsPlanReport floats at document request book refine strict explain r → IsPlanReport other at document request book refine strict explain r

-- of `verify`
abbrev pub VerdictsStay : Type 0
VerdictsStay =
    (floats other : Bool) (at : Holding) (document request book plan : List ℕ) (refine : Option ℕ) (strict json : Bool) (r : Came) → IsWholeAt at document
    → IsVerifyReport floats at document request book plan refine strict json r → IsVerifyReport other at document request book plan refine strict json r

-- of `apply`
abbrev pub AppliedStay : Type 0
AppliedStay =
    (floats other : Bool) (at : Holding) (document plan key : List ℕ) (site : ℕ) (strict : Bool) (r : Came) → IsWholeAt at document
    → IsApplyReport floats at document plan key site strict r → IsApplyReport other at document plan key site strict r

-- of `compare`, of two documents whose numbers are all whole
abbrev pub ComparedStay : Type 0
ComparedStay =
    (other : Bool) (at : Holding) (after : Option Holding) (a : Comparing) (r : compare.Came) → IsWholeAt at a.old → IsWholeAt at a.new
    → IsCompareReport at after a r → IsCompareReport at after (record a { floats = other }) r

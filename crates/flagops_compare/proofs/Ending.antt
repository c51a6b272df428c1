-- What the command comes to, and what a person is told of it.
use Rattle.std.proofs.Common.{Option, Some, None, IfSome, IfOk, subst}
use Rattle.std.specs.Prelude.{Result, Ok, Err}
use Rattle.flagops_compare.specs.Refusal.{is_want}
use Rattle.flagops_compare.specs.Report.{TellsLeft, attempts_of, remark_of}
use Rattle.flagops_compare.specs.Step.{TellsRefused, Told}
use Rattle.flagops_compare.specs.Words.{Comparing}
use Rattle.flagops_shell.specs.Diagnostic.{Says}
use Rattle.flagops_shell.specs.Ending.{Remarks}
use Rattle.flagops_shell.specs.Files.{Holding}
use Rattle.flagops_shell.specs.declared.outcome.Outcome.{Outcome}
use Rattle.flagops_shell.specs.declared.refused.Remark.{Remark}

-- of a report what is doubted of its pages, and of a refusal the name of the first file that is refused
pub remarks : (files : Option Holding) (a : Comparing) (r : Result Outcome Told) → IfSome files (λ at. TellsRefused (attempts_of at a) a r) → IfSome files (λ at. IfOk r (λ o. IfSome o.remark (Says (TellsLeft at a))))
    → IfSome files (λ at. Remarks is_want (remark_of at a) r)
remarks None a r names notes = tt
remarks (Some at) a (Ok o) names notes = λ remark is. subst (λ (m : Option Remark). IfSome m (Says (TellsLeft at a))) is notes
remarks (Some at) a (Err t) names notes = names

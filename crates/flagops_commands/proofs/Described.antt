-- What a person is told of what a command came to, as its trait shows it.
use Rattle.std.proofs.Common.{Option, Some, None, IfOk, IfSome, IfErr, refl, subst}
use Rattle.std.specs.Prelude.{Result, Ok, Err}
use Rattle.flagops_commands.specs.Refusal.{ComesFrom, Refused, call_name, call_of, is_want}
use Rattle.flagops_shell.specs.Outcomes.{IsCallOf}
use Rattle.flagops_shell.specs.Diagnostic.{Says}
use Rattle.flagops_shell.specs.Ending.{Remarks}
use Rattle.flagops_shell.specs.Files.{Holding}
use Rattle.flagops_shell.specs.Report.{outcome_view}
use Rattle.flagops_shell.specs.declared.outcome.Outcome.{Outcome}
use Rattle.flagops_shell.specs.declared.refused.Remark.{Remark}
use Rattle.flagops_words.specs.Asked.{Asked}
use Rattle.flagops_commands.specs.Commands.{calls_of}
use Rattle.flagops_commands.specs.Attempts.{TellsOfFirst, attempts_of, remark_of}
use Rattle.flagops_commands.specs.Subjects.{notes_of, numbers_of, parts_of}

-- of a report its note, its numbers and its parts, and of a refusal the name of the first that is refused
pub remarks : (files : Option Holding) (a : Asked) (r : Result Outcome Refused) → IfSome files (λ at. TellsOfFirst (attempts_of a at) r) → IfOk r (λ o. IfSome o.remark (Says (notes_of a)))
    → IfOk r (λ o. IfSome files (λ at. IfSome o.remark (Says (numbers_of a at (outcome_view o))))) → IfSome files (λ at. IfOk r (λ o. parts_of a at (outcome_view o) o.remark)) → IfSome files (λ at. Remarks is_want (remark_of a at) r)
remarks None a r names notes numbers parts = tt
remarks (Some at) a (Ok o) names notes numbers parts = λ remark is. (
  subst (λ (m : Option Remark). IfSome m (Says (notes_of a))) is notes,
  subst (λ (m : Option Remark). IfSome m (Says (numbers_of a at (outcome_view o)))) is numbers,
  subst (λ (m : Option Remark). parts_of a at (outcome_view o) m) is parts,
)
remarks (Some at) a (Err e) names notes numbers parts = names

-- a call of the command ran out of memory
pub wants : (a : Asked) (r : Result Outcome Refused) → ComesFrom (calls_of a) r → IfErr r (λ e. IsCallOf call_name (calls_of a) (call_name (call_of e.refusal)))
wants a (Ok o) comes = tt
wants a (Err e) comes = (call_of e.refusal, comes, refl)

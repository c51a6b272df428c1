-- What comes of a report beside which a doubt is settled.
use Rattle.std.proofs.Common.{◌≡◌, false, Bool, Result, Ok, Err, sym, ap, subst}
use Rattle.flagops_shell.specs.Report.{outcome_view}
use Rattle.flagops_shell.specs.declared.outcome.Outcome.{Outcome}
use Rattle.flagops_ramps.specs.Doubts.{beside}
use Rattle.flagops_ramps.specs.Refusal.{is_want}
use Rattle.flagops_ramps.specs.Report.{Came, GivesUnlessWant, Told}
use Rattle.flagops_ramps.specs.declared.refusal.RampRefusal.{RampRefusal}

-- a person is told of it, or there is none
pub told_so : (settled : Result Bool RampRefusal) (told : Bool) (report : Came) (r : Result Outcome Told) → settled ≡ Ok told → GivesUnlessWant outcome_view r (beside (Ok told) report) → GivesUnlessWant outcome_view r (beside settled report)
told_so settled told report r is gives = subst (λ (s : Result Bool RampRefusal). GivesUnlessWant outcome_view r (beside s report)) (sym is) gives

-- it is refused
pub refused_so : (settled : Result Bool RampRefusal) (report : Came) (t : Told) → (is_want t.refusal ≡ false → settled ≡ Err t.refusal) → GivesUnlessWant outcome_view (Err t) (beside settled report)
refused_so settled report t is = λ no_want. ap (λ (s : Result Bool RampRefusal). beside s report) (is no_want)

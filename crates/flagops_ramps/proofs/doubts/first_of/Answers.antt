use Rattle.std.proofs.Common.{Option, IfSome, Some, option_map, refl, subst, sym}
use Rattle.file_diagnostics.specs.Named.{Names}
use Rattle.flagops_shell.specs.Diagnostic.{Says}
use Rattle.flagops_shell.specs.declared.refused.Remark.{Remark}
use Rattle.flagops_rollouts.specs.Beside.{AreBoth}
use Rattle.flagops_rollouts.proofs.Parts.{joined_named}
use Rattle.flagops_ramps.proofs.doubts.first_of.Goals as goal

pub returns-in-Some-clause-notes : goal.returns-in-Some-clause-notes
returns-in-Some-clause-notes c = λ request book unread recorded.
    joined_named request c.in-Some.remark c.joined.result c.remark_in.result (subst (λ (o : Option Remark). IfSome o (Says (Names request))) c.in-Some.is unread) c.joined.ensures

pub returns-in-Some-clause-both : goal.returns-in-Some-clause-both
returns-in-Some-clause-both c =
    subst (λ (u : Option Remark). AreBoth u (option_map (λ d. d.remark) c.args.recorded) (Some c.joined.result)) (sym c.in-Some.is)
    (subst (λ (m : Option Remark). AreBoth (Some c.in-Some.remark) m (Some c.joined.result)) c.remark_in.ensures.remark c.joined.ensures)

pub returns-in-None-clause-both : goal.returns-in-None-clause-both
returns-in-None-clause-both c = subst (λ (u : Option Remark). AreBoth u (option_map (λ d. d.remark) c.args.recorded) (option_map (λ d. d.remark) c.args.recorded)) (sym c.in-None.is) refl

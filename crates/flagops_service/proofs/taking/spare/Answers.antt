use Rattle.std.proofs.Common.{Option, MatchOption, inr, refl, rules, subst}
use Rattle.flag_doubts.specs.declared.regression.Regression.{Regression}
use Rattle.flagops_service.specs.Rereading.{Harms, MayBeRefused, Spares}
use Rattle.flagops_service.proofs.taking.spare.Goals as goal

-- it is refused for the harm that it does
pub returns-in-Some : goal.returns-in-Some
returns-in-Some c =
    let accepted = c.args.accepted.now in
    let text = c.args.text.now in
    let harms : Harms accepted text = subst (λ (o : Option Regression). MatchOption o (Spares accepted text) (λ r. Harms accepted text)) c.in-Some.is c.in_ok-regression-in-Keep.ensures in
    let may : MayBeRefused c.args.mode accepted text = search rules in
    inr (c.in-Some.regression, refl, may)

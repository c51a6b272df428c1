use Rattle.std.proofs.Common.{◌≡◌, sym, ap, ◌∙◌}
use Rattle.std.proofs.lemmas.Result.{IfOk-weaker}
use Rattle.flag_defs.specs.Flag.{flag_view}
use Rattle.logic_ast.specs.Expr.{view as expr_view}
use Rattle.logic_eval.specs.Evaluation.{evaluation_of}
use Rattle.logic_eval.specs.Views.{situation}
use Rattle.flag_resolve.specs.Resolution.{evaluated}
use Rattle.flag_resolve.specs.Views.{asked_view, resolution_view}
use Rattle.flag_resolve.proofs.Scalars.{evaluated-scalar}
use Rattle.flag_resolve.proofs.cases.evaluated.Goals as goal

pub returns-in-Ok : goal.returns-in-Ok
returns-in-Ok c =
    let asked = asked_view c.args.asked.now in
    let flag = flag_view c.args.flag.now in
    let given = evaluation_of (expr_view c.args.targeting.now) (situation c.args.context.now) in
    IfOk-weaker c.targeted.result _ (λ r. resolution_view r ≡ evaluated asked flag given)
    (λ r is. is ∙ (ap (evaluated asked flag) (sym c.in-Ok.ensures) ∙ evaluated-scalar asked flag given))
    c.targeted.ensures

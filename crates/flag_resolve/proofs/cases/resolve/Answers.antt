use Rattle.std.proofs.Common.{option_map, subst, sym}
use Rattle.std.proofs.lemmas.Result.{IfOk-weaker}
use Rattle.flag_defs.specs.Flags.{flags_view}
use Rattle.flag_text.specs.View.{view}
use Rattle.logic_eval.specs.Scope.{Situation}
use Rattle.flag_resolve.specs.Lawful.{IsLawful}
use Rattle.flag_resolve.specs.Resolution.{Asked}
use Rattle.flag_resolve.specs.Views.{resolution_view}
use Rattle.flag_resolve.proofs.Lawful.{resolution_of-lawful}
use Rattle.flag_resolve.proofs.cases.resolve.Goals as goal

pub returns-clause-lawful : goal.returns-clause-lawful
returns-clause-lawful c =
    let asked : Asked = record { want = c.args.want; default = view c.args.default.now } in
    let s : Situation = record { context = view c.args.context.now; flag = c.args.key.now; moment = c.args.moment } in
    IfOk-weaker c.found.result _ (λ r. IsLawful asked (resolution_view r))
    (λ r exact. subst (IsLawful asked) (sym exact) (resolution_of-lawful (option_map (λ f. flags_view f.now) c.args.flags) asked s))
    c.found.ensures

use Rattle.std.proofs.lemmas.Result.{err_from_is_err_and}
use Rattle.price_core.proofs.Lawful.{judged_err}
use Rattle.price_core.proofs.request.Request.of_tree.Goals as goal

pub returns-in_err-draft : goal.returns-in_err-draft
returns-in_err-draft c =
    let p = err_from_is_err_and c.from_residual.result c.from_residual.ensures.1 in
    rw (p.1, p.2) (λ want. judged_err _ _ (c.in_err-draft.ensures.exact want))

use Rattle.std.proofs.Common.{◌≡◌, true, ap, option_copied}
use Rattle.std.specs.Prelude.{is_some}
use Rattle.std.proofs.lemmas.Result.{err_from_is_err_and}
use Rattle.flagops_service.specs.Words.{answering_view}
use Rattle.flagops_service.proofs.keys.read_keys.Goals as goal

-- a file is named
pub returns-in_err-keys_at-in-Some-clause-unready : goal.returns-in_err-keys_at-in-Some-clause-unready
returns-in_err-keys_at-in-Some-clause-unready g c =
    let a = answering_view c.args.answering.now in
    let named : is_some a.keys ≡ true = ap (λ o. is_some (option_copied o)) c.in-Some.is in
    let p = err_from_is_err_and c.from_residual.result c.from_residual.ensures.1 in
    rw (p.1, p.2) (c.in_err-keys_at-in-Some.ensures.unready a named)

use Rattle.std.proofs.Common.{rules, ap, map, option_map, subst, sym, ◌∙◌}
use Rattle.clap.specs.declared.error.kind.ErrorKind.{ErrorKind}
use Rattle.flagops_words.specs.Alone.{IsToldBy}
use Rattle.flagops_words.proofs.Alone.{asked_of, missed_in, told_of}
use Rattle.flagops_checks.specs.Words.{check_app, check_by, check_faults, checking_in, checking_view}
use Rattle.flagops_checks.proofs.Matched.{check_free, check_plain}
use Rattle.flagops_checks.proofs.words.read_checking.Goals as goal

pub returns-in_err-matches-clause-err : goal.returns-in_err-matches-clause-err
unfolding check_by check_faults
returns-in_err-matches-clause-err g c =
    let told = told_of check_app check_plain check_free checking_in (map g.S.AsStr.text c.args.words.now) _ c.in_ok-usage.ensures _ c.in_err-matches.ensures.kinds in search rules

pub returns-in-Some-clause-ok : goal.returns-in-Some-clause-ok
unfolding check_by check_faults
returns-in-Some-clause-ok g c =
    asked_of check_app check_plain check_free checking_in (map g.S.AsStr.text c.args.words.now) _ c.in_ok-usage.ensures c.in_ok-matches.matches c.in_ok-matches.ensures.kinds c.in_ok-matches.ensures.matches _ (sym c.in_ok-asked.ensures ∙ ap (option_map checking_view) c.in-Some.is)

pub returns-clause-err : goal.returns-clause-err
unfolding check_by check_faults
returns-clause-err g c =
    let words = map g.S.AsStr.text c.args.words.now in
    let told = missed_in check_app check_plain check_free checking_in words _ c.in_ok-usage.ensures c.in_ok-matches.matches c.in_ok-matches.ensures.kinds c.in_ok-matches.ensures.matches (sym c.in_ok-asked.ensures ∙ ap (option_map checking_view) c.in-None.is) in
    subst (λ (k : ErrorKind). IsToldBy (check_faults words) (check_by words) k) (sym c.in_ok-missing_value-in-None.ensures) told

use Rattle.std.proofs.Common.{rules, ap, map, option_map, subst, sym, ◌∙◌}
use Rattle.clap.specs.declared.error.kind.ErrorKind.{ErrorKind}
use Rattle.flagops_words.specs.Alone.{IsToldBy}
use Rattle.flagops_words.proofs.Alone.{asked_of, missed_in, told_of}
use Rattle.flagops_service.specs.Words.{ofrep_by, ofrep_faults, ofrep_app, answering_in, answering_view}
use Rattle.flagops_service.proofs.Matched.{ofrep_plain, ofrep_free}
use Rattle.flagops_service.proofs.words.read_ofrep.Goals as goal

pub returns-in_err-matches-clause-err : goal.returns-in_err-matches-clause-err
unfolding ofrep_by ofrep_faults
returns-in_err-matches-clause-err g c =
    let told = told_of ofrep_app ofrep_plain ofrep_free answering_in (map g.S.AsStr.text c.args.words.now) _ c.in_ok-command.ensures _ c.in_err-matches.ensures.kinds in search rules

pub returns-in-Some-clause-ok : goal.returns-in-Some-clause-ok
unfolding ofrep_by ofrep_faults
returns-in-Some-clause-ok g c =
    asked_of ofrep_app ofrep_plain ofrep_free answering_in (map g.S.AsStr.text c.args.words.now) _ c.in_ok-command.ensures c.in_ok-matches.matches c.in_ok-matches.ensures.kinds c.in_ok-matches.ensures.matches _ (sym c.in_ok-told.ensures ∙ ap (option_map answering_view) c.in-Some.is)

pub returns-clause-err : goal.returns-clause-err
unfolding ofrep_by ofrep_faults
returns-clause-err g c =
    let words = map g.S.AsStr.text c.args.words.now in
    let told = missed_in ofrep_app ofrep_plain ofrep_free answering_in words _ c.in_ok-command.ensures c.in_ok-matches.matches c.in_ok-matches.ensures.kinds c.in_ok-matches.ensures.matches (sym c.in_ok-told.ensures ∙ ap (option_map answering_view) c.in-None.is) in
    subst (λ (k : ErrorKind). IsToldBy (ofrep_faults words) (ofrep_by words) k) (sym c.in_ok-missing_value-in-None.ensures) told

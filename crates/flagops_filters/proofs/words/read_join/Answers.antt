use Rattle.std.proofs.Common.{rules, ap, map, option_map, subst, sym, ◌∙◌}
use Rattle.clap.specs.declared.error.kind.ErrorKind.{ErrorKind}
use Rattle.flagops_words.specs.Alone.{IsToldBy}
use Rattle.flagops_words.proofs.Alone.{asked_of, missed_in, told_of}
use Rattle.flagops_filters.specs.Words.{join_by, join_faults, join_app, join_in, joining_view}
use Rattle.flagops_filters.proofs.Matched.{join_plain, join_free}
use Rattle.flagops_filters.proofs.words.read_join.Goals as goal

pub returns-in_err-matches-clause-err : goal.returns-in_err-matches-clause-err
unfolding join_by join_faults
returns-in_err-matches-clause-err g c =
    let told = told_of join_app join_plain join_free join_in (map g.S.AsStr.text c.args.words.now) _ c.in_ok-join.ensures _ c.in_err-matches.ensures.kinds in search rules

pub returns-in-Some-clause-ok : goal.returns-in-Some-clause-ok
unfolding join_by join_faults
returns-in-Some-clause-ok g c =
    asked_of join_app join_plain join_free join_in (map g.S.AsStr.text c.args.words.now) _ c.in_ok-join.ensures c.in_ok-matches.matches c.in_ok-matches.ensures.kinds c.in_ok-matches.ensures.matches _ (sym c.in_ok-told.ensures ∙ ap (option_map joining_view) c.in-Some.is)

pub returns-clause-err : goal.returns-clause-err
unfolding join_by join_faults
returns-clause-err g c =
    let words = map g.S.AsStr.text c.args.words.now in
    let told = missed_in join_app join_plain join_free join_in words _ c.in_ok-join.ensures c.in_ok-matches.matches c.in_ok-matches.ensures.kinds c.in_ok-matches.ensures.matches (sym c.in_ok-told.ensures ∙ ap (option_map joining_view) c.in-None.is) in
    subst (λ (k : ErrorKind). IsToldBy (join_faults words) (join_by words) k) (sym c.in_ok-missing_value-in-None.ensures) told

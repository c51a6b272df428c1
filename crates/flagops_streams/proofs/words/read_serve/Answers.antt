use Rattle.std.proofs.Common.{rules, ap, map, option_map, subst, sym, ◌∙◌}
use Rattle.clap.specs.declared.error.kind.ErrorKind.{ErrorKind}
use Rattle.flagops_words.specs.Alone.{IsToldBy}
use Rattle.flagops_words.proofs.Alone.{asked_of, missed_in, told_of}
use Rattle.flagops_streams.specs.Words.{serve_by, serve_faults, serve_app, serving_in, serving_view}
use Rattle.flagops_streams.proofs.Matched.{serve_plain, serve_free}
use Rattle.flagops_streams.proofs.words.read_serve.Goals as goal

pub returns-in_err-matches-clause-err : goal.returns-in_err-matches-clause-err
unfolding serve_by serve_faults
returns-in_err-matches-clause-err g c =
    let told = told_of serve_app serve_plain serve_free serving_in (map g.S.AsStr.text c.args.words.now) _ c.in_ok-serve.ensures _ c.in_err-matches.ensures.kinds in search rules

pub returns-in-Some-clause-ok : goal.returns-in-Some-clause-ok
unfolding serve_by serve_faults
returns-in-Some-clause-ok g c =
    asked_of serve_app serve_plain serve_free serving_in (map g.S.AsStr.text c.args.words.now) _ c.in_ok-serve.ensures c.in_ok-matches.matches c.in_ok-matches.ensures.kinds c.in_ok-matches.ensures.matches _ (sym c.in_ok-told.ensures ∙ ap (option_map serving_view) c.in-Some.is)

pub returns-clause-err : goal.returns-clause-err
unfolding serve_by serve_faults
returns-clause-err g c =
    let words = map g.S.AsStr.text c.args.words.now in
    let told = missed_in serve_app serve_plain serve_free serving_in words _ c.in_ok-serve.ensures c.in_ok-matches.matches c.in_ok-matches.ensures.kinds c.in_ok-matches.ensures.matches (sym c.in_ok-told.ensures ∙ ap (option_map serving_view) c.in-None.is) in
    subst (λ (k : ErrorKind). IsToldBy (serve_faults words) (serve_by words) k) (sym c.in_ok-missing_value-in-None.ensures) told

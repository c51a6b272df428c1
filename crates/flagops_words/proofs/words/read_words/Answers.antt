use Rattle.std.proofs.Common.{rules, ap, map, option_map, subst, sym, ◌∙◌}
use Rattle.clap.specs.declared.error.kind.ErrorKind.{ErrorKind}
use Rattle.flagops_words.specs.Asked.{asked_view}
use Rattle.flagops_words.specs.Words.{IsToldBy}
use Rattle.flagops_words.proofs.Matched.{asked_by-read, told_by-kind, told_by-kinds}
use Rattle.flagops_words.proofs.words.read_words.Goals as goal

pub returns-in_err-matches-clause-err : goal.returns-in_err-matches-clause-err
returns-in_err-matches-clause-err g c =
    let told = told_by-kinds (map g.S.AsStr.text c.args.words.now) _ _ c.in_ok-flagops.ensures c.in_err-matches.ensures.kinds in search rules

pub returns-in-Some-clause-ok : goal.returns-in-Some-clause-ok
returns-in-Some-clause-ok g c =
    asked_by-read (map g.S.AsStr.text c.args.words.now) _ c.in_ok-matches.matches c.in_ok-flagops.ensures c.in_ok-matches.ensures.kinds _ c.in_ok-matches.ensures.matches
    (sym (ap (option_map asked_view) c.in-Some.is) ∙ c.asked_of.ensures)

pub returns-clause-err : goal.returns-clause-err
returns-clause-err g c =
    let words = map g.S.AsStr.text c.args.words.now in
    let told = told_by-kind words _ c.in_ok-matches.matches c.in_ok-flagops.ensures c.in_ok-matches.ensures.kinds c.in_ok-matches.ensures.matches
    (sym (ap (option_map asked_view) c.in-None.is) ∙ c.asked_of.ensures) in
    subst (λ (k : ErrorKind). IsToldBy words k) (sym c.in_ok-unknown_word-in-None.ensures) told

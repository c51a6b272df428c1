use Rattle.std.proofs.Common.{rules, map, subst, sym}
use Rattle.clap.specs.declared.error.kind.ErrorKind.{ErrorKind}
use Rattle.flagops_words.specs.Alone.{IsToldBy}
use Rattle.flagops_words.proofs.Alone.{asked_of, missed_in, told_of}
use Rattle.flagops_compare.specs.Words.{compare_app, compare_by, compare_faults, comparing_in}
use Rattle.flagops_compare.proofs.Matched.{compare_free, compare_plain}
use Rattle.flagops_compare.proofs.words.read_comparing.Goals as goal

pub returns-in_err-matches-clause-err : goal.returns-in_err-matches-clause-err
unfolding compare_by compare_faults
returns-in_err-matches-clause-err g c =
    let told = told_of compare_app compare_plain compare_free comparing_in (map g.S.AsStr.text c.args.words.now) _ c.in_ok-usage.ensures _ c.in_err-matches.ensures.kinds in search rules

pub returns-in-Some-clause-ok : goal.returns-in-Some-clause-ok
unfolding compare_by compare_faults
returns-in-Some-clause-ok g c =
    asked_of compare_app compare_plain compare_free comparing_in (map g.S.AsStr.text c.args.words.now) _ c.in_ok-usage.ensures c.in_ok-matches.matches c.in_ok-matches.ensures.kinds c.in_ok-matches.ensures.matches _ (sym c.in-Some.ensures)

pub returns-clause-err : goal.returns-clause-err
unfolding compare_by compare_faults
returns-clause-err g c =
    let words = map g.S.AsStr.text c.args.words.now in
    let told = missed_in compare_app compare_plain compare_free comparing_in words _ c.in_ok-usage.ensures c.in_ok-matches.matches c.in_ok-matches.ensures.kinds c.in_ok-matches.ensures.matches (sym c.in-None.ensures) in
    subst (λ (k : ErrorKind). IsToldBy (compare_faults words) (compare_by words) k) (sym c.in_ok-missing_value-in-None.ensures) told

use Rattle.std.proofs.Common.{rules, map, subst, sym}
use Rattle.clap.specs.declared.error.kind.ErrorKind.{ErrorKind}
use Rattle.flagops_words.specs.Alone.{IsToldBy}
use Rattle.flagops_words.proofs.Alone.{asked_of, missed_in, told_of}
use Rattle.flagops_filters.specs.Words.{tally_by, tally_faults, tally_app, tally_in}
use Rattle.flagops_filters.proofs.Matched.{tally_plain, tally_free}
use Rattle.flagops_filters.proofs.words.read_tally.Goals as goal

pub returns-in_err-matches-clause-err : goal.returns-in_err-matches-clause-err
unfolding tally_by tally_faults
returns-in_err-matches-clause-err g c =
    let told = told_of tally_app tally_plain tally_free tally_in (map g.S.AsStr.text c.args.words.now) _ c.in_ok-tally.ensures _ c.in_err-matches.ensures.kinds in search rules

pub returns-in-Some-clause-ok : goal.returns-in-Some-clause-ok
unfolding tally_by tally_faults
returns-in-Some-clause-ok g c =
    asked_of tally_app tally_plain tally_free tally_in (map g.S.AsStr.text c.args.words.now) _ c.in_ok-tally.ensures c.in_ok-matches.matches c.in_ok-matches.ensures.kinds c.in_ok-matches.ensures.matches _ (sym c.in-Some.ensures)

pub returns-clause-err : goal.returns-clause-err
unfolding tally_by tally_faults
returns-clause-err g c =
    let words = map g.S.AsStr.text c.args.words.now in
    let told = missed_in tally_app tally_plain tally_free tally_in words _ c.in_ok-tally.ensures c.in_ok-matches.matches c.in_ok-matches.ensures.kinds c.in_ok-matches.ensures.matches (sym c.in-None.ensures) in
    subst (λ (k : ErrorKind). IsToldBy (tally_faults words) (tally_by words) k) (sym c.in_ok-missing_value-in-None.ensures) told

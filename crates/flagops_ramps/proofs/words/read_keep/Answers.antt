use Rattle.std.proofs.Common.{rules, map, subst, sym}
use Rattle.clap.specs.declared.error.kind.ErrorKind.{ErrorKind}
use Rattle.flagops_words.specs.Alone.{IsToldBy}
use Rattle.flagops_words.proofs.Alone.{asked_of, missed_in, told_of}
use Rattle.flagops_ramps.specs.Words.{keep_by, keep_faults, keep_app, keep_in}
use Rattle.flagops_ramps.proofs.Matched.{keep_plain, keep_free}
use Rattle.flagops_ramps.proofs.words.read_keep.Goals as goal

pub returns-in_err-matches-clause-err : goal.returns-in_err-matches-clause-err
unfolding keep_by keep_faults
returns-in_err-matches-clause-err g c =
    let told = told_of keep_app keep_plain keep_free keep_in (map g.S.AsStr.text c.args.words.now) _ c.in_ok-keep.ensures _ c.in_err-matches.ensures.kinds in search rules

pub returns-in-Some-clause-ok : goal.returns-in-Some-clause-ok
unfolding keep_by keep_faults
returns-in-Some-clause-ok g c =
    asked_of keep_app keep_plain keep_free keep_in (map g.S.AsStr.text c.args.words.now) _ c.in_ok-keep.ensures c.in_ok-matches.matches c.in_ok-matches.ensures.kinds c.in_ok-matches.ensures.matches _ (sym c.in-Some.ensures)

pub returns-clause-err : goal.returns-clause-err
unfolding keep_by keep_faults
returns-clause-err g c =
    let words = map g.S.AsStr.text c.args.words.now in
    let told = missed_in keep_app keep_plain keep_free keep_in words _ c.in_ok-keep.ensures c.in_ok-matches.matches c.in_ok-matches.ensures.kinds c.in_ok-matches.ensures.matches (sym c.in-None.ensures) in
    subst (λ (k : ErrorKind). IsToldBy (keep_faults words) (keep_by words) k) (sym c.in_ok-missing_value-in-None.ensures) told

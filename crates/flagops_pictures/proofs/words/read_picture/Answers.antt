use Rattle.std.proofs.Common.{rules, map, subst, sym}
use Rattle.clap.specs.declared.error.kind.ErrorKind.{ErrorKind}
use Rattle.flagops_words.specs.Alone.{IsToldBy}
use Rattle.flagops_words.proofs.Alone.{asked_of, missed_in, told_of}
use Rattle.flagops_pictures.specs.Words.{picture_app, picture_by, picture_faults, picture_in}
use Rattle.flagops_pictures.proofs.Matched.{picture_free, picture_plain}
use Rattle.flagops_pictures.proofs.words.read_picture.Goals as goal

pub returns-in_err-matches-clause-err : goal.returns-in_err-matches-clause-err
unfolding picture_by picture_faults
returns-in_err-matches-clause-err g c =
    let told = told_of picture_app picture_plain picture_free picture_in (map g.S.AsStr.text c.args.words.now) _ c.in_ok-usage.ensures _ c.in_err-matches.ensures.kinds in search rules

pub returns-in-Some-clause-ok : goal.returns-in-Some-clause-ok
unfolding picture_by picture_faults
returns-in-Some-clause-ok g c =
    asked_of picture_app picture_plain picture_free picture_in (map g.S.AsStr.text c.args.words.now) _ c.in_ok-usage.ensures c.in_ok-matches.matches c.in_ok-matches.ensures.kinds c.in_ok-matches.ensures.matches _ (sym c.in-Some.ensures)

pub returns-clause-err : goal.returns-clause-err
unfolding picture_by picture_faults
returns-clause-err g c =
    let words = map g.S.AsStr.text c.args.words.now in
    let told = missed_in picture_app picture_plain picture_free picture_in words _ c.in_ok-usage.ensures c.in_ok-matches.matches c.in_ok-matches.ensures.kinds c.in_ok-matches.ensures.matches (sym c.in-None.ensures) in
    subst (λ (k : ErrorKind). IsToldBy (picture_faults words) (picture_by words) k) (sym c.in_ok-missing_value-in-None.ensures) told

use Rattle.std.proofs.Common.{◌+◌, drop, ap, arith}
use Rattle.std.proofs.lemmas.List.{drop_all}
use Rattle.note_streams.proofs.Cut.{first_file_left}
use Rattle.note_streams.proofs.Strays.{found_there, none_left, none_told, passed_more, passed_none, some_told}
use Rattle.note_streams.specs.LogLines.{files_view}
use Rattle.note_streams.proofs.stray.first_stray.Goals as goal

pub loop-at-init : goal.loop-at-init
loop-at-init c = passed_none (files_view c.args.files.now)

pub loop-at-preserved : goal.loop-at-preserved
loop-at-preserved c =
    let files = c.args.files.now in
    let at = c.loop-at.at in
    passed_more (files_view files) (files_view (drop at files)) (files_view (drop (at + 1) files)) _ at (none_told _ _ c.in_default.is c.in_ok-line.ensures) (first_file_left files at _ (omega (arith, c.loop-at-test.true))) c.loop-at.invariant

pub returns-in-Some : goal.returns-in-Some
returns-in-Some c =
    let files = c.args.files.now in
    let at = c.loop-at.at in
    found_there (files_view files) (files_view (drop at files)) (files_view (drop (at + 1) files)) _ at c.in-Some.line (some_told _ _ _ c.in-Some.line c.in-Some.is c.in_ok-line.ensures) (first_file_left files at _ (omega (arith, c.loop-at-test.true))) c.loop-at.invariant

pub returns : goal.returns
returns c =
    let files = c.args.files.now in
    none_left (files_view files) (files_view (drop c.loop-at.at files)) c.loop-at.at (ap files_view (drop_all c.loop-at.at files (omega (arith, c.loop-at-test.false)))) c.loop-at.invariant

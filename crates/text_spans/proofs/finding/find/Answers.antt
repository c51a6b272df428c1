use Rattle.std.proofs.Common.{IsSome, arith}
use Rattle.json.specs.Json.{document}
use Rattle.text_spans.specs.View.{path_of}
use Rattle.text_spans.proofs.Found.{dropped, is_there, stands_nowhere, stands_there, there_cut}
use Rattle.text_spans.proofs.finding.find.Goals as goal

pub overflow_sub-result : goal.overflow_sub-result
overflow_sub-result c =
    let valid : IsSome (document c.args.text.now) = c.in_ok-is_valid.ensures.ok.0 c.if-not-branch.false in
    let there = is_there c.args.text.now (path_of c.args.path.now) _ _ _ _ valid c.in_ok-cursor.ensures.0 c.in_ok-cursor.ensures.1 c.in-Some.ensures.place in
    (there_cut c.args.text.now (path_of c.args.path.now) _ _ there).start

pub overflow_sub-result-in-Some : goal.overflow_sub-result-in-Some
overflow_sub-result-in-Some c =
    let valid : IsSome (document c.args.text.now) = c.in_ok-is_valid.ensures.ok.0 c.if-not-branch.false in
    let there = is_there c.args.text.now (path_of c.args.path.now) _ _ _ _ valid c.in_ok-cursor.ensures.0 c.in_ok-cursor.ensures.1 c.in-Some.ensures.place in
    (there_cut c.args.text.now (path_of c.args.path.now) _ _ there).end

pub returns-in-Some-clause-exact : goal.returns-in-Some-clause-exact
returns-in-Some-clause-exact c =
    let valid : IsSome (document c.args.text.now) = c.in_ok-is_valid.ensures.ok.0 c.if-not-branch.false in
    let there = is_there c.args.text.now (path_of c.args.path.now) _ _ _ _ valid c.in_ok-cursor.ensures.0 c.in_ok-cursor.ensures.1 c.in-Some.ensures.place in
    dropped c.args.text.now _ _ (path_of c.args.path.now) there

pub returns-in-Some-clause-bounds : goal.returns-in-Some-clause-bounds
returns-in-Some-clause-bounds c =
    let valid : IsSome (document c.args.text.now) = c.in_ok-is_valid.ensures.ok.0 c.if-not-branch.false in
    let there = is_there c.args.text.now (path_of c.args.path.now) _ _ _ _ valid c.in_ok-cursor.ensures.0 c.in_ok-cursor.ensures.1 c.in-Some.ensures.place in
    let at = there_cut c.args.text.now (path_of c.args.path.now) _ _ there in
    (at.rises, omega arith)

pub returns-in-Some-clause-stands : goal.returns-in-Some-clause-stands
returns-in-Some-clause-stands c =
    let valid : IsSome (document c.args.text.now) = c.in_ok-is_valid.ensures.ok.0 c.if-not-branch.false in
    let there = is_there c.args.text.now (path_of c.args.path.now) _ _ _ _ valid c.in_ok-cursor.ensures.0 c.in_ok-cursor.ensures.1 c.in-Some.ensures.place in
    let at = there_cut c.args.text.now (path_of c.args.path.now) _ _ there in
    stands_there c.args.text.now (path_of c.args.path.now) _ _ at.rises (dropped c.args.text.now _ _ (path_of c.args.path.now) there)

pub returns-clause-exact : goal.returns-clause-exact
returns-clause-exact c =
    let valid : IsSome (document c.args.text.now) = c.in_ok-is_valid.ensures.ok.0 c.if-not-branch.false in
    is_there c.args.text.now (path_of c.args.path.now) _ _ _ _ valid c.in_ok-cursor.ensures.0 c.in_ok-cursor.ensures.1 c.in-None.ensures.place

pub returns-clause-stands : goal.returns-clause-stands
returns-clause-stands c =
    let valid : IsSome (document c.args.text.now) = c.in_ok-is_valid.ensures.ok.0 c.if-not-branch.false in
    stands_nowhere c.args.text.now (path_of c.args.path.now) (is_there c.args.text.now (path_of c.args.path.now) _ _ _ _ valid c.in_ok-cursor.ensures.0 c.in_ok-cursor.ensures.1 c.in-None.ensures.place)

use Rattle.std.proofs.Common.{◌≡◌, ◌≤◌, ◌++◌, Some, take, drop, false, ap, ◌∙◌, arith}
use Rattle.text_spans.specs.View.{path_of}
use Rattle.kept_document.specs.Kept.{entries_text}
use Rattle.kept_document.proofs.Texts.{kept_there, mark_none, mark_some, no_mark}
use Rattle.kept_document.proofs.editing.edited.Goals as goal

pub returns-in_default-3 : goal.returns-in_default-3
returns-in_default-3 c =
    let one : c.in_ok-one.field-0 ≡ Some c.in-Some.one = c.in-Some.is in
    let le : c.in-Some.one.start ≤ c.in-Some.one.end = grind arith in
    no_mark c.args.document.now (path_of c.args.list.items) c.args.first c.args.last c.args.rule.now _ c.in_ok-one.field-0 c.in-Some.one c.in_ok-one.ensures.found one le
    (c.in_ok-other.ensures.same ∙ c.in_ok-one.ensures.same) (mark_none _ _ _ _ _ c.in_ok-mark.field-0 c.in_ok-mark.ensures.mark c.in_default-3.is)

pub returns : goal.returns
returns c =
    let one : c.in_ok-one.field-0 ≡ Some c.in-Some.one = c.in-Some.is in
    let le : c.in-Some.one.start ≤ c.in-Some.one.end = grind arith in
    kept_there c.args.document.now (path_of c.args.list.items) c.args.first c.args.last c.args.rule.now _ _ c.in_ok-one.field-0 c.in_ok-other.field-0 c.in-Some.one c.in-Some-2.other c.in-Some-3.mark.now _
    c.in_ok-one.ensures.found one le c.in_ok-one.ensures.same c.in_ok-other.ensures.found c.in-Some-2.is (c.in_ok-other.ensures.same ∙ c.in_ok-one.ensures.same)
    (mark_some _ _ _ _ _ c.in_ok-mark.field-0 c.in-Some-3.mark c.in_ok-mark.ensures.mark c.in-Some-3.is)
    (c.in_ok-joined.ensures ∙ ap (λ t. take c.in-Some.one.start t ++ (entries_text c.in-Some-3.mark.now false c.args.rule.now ++ drop c.in-Some-2.other.end t)) c.as_bytes.ensures.value)

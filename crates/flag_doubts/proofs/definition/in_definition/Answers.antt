use Rattle.std.proofs.Common.{sym, ap, ◌∙◌, subst}
use Rattle.std.proofs.lemmas.Result.{IfOk-weaker}
use Rattle.json.specs.Json.{parse_map, value, object}
use Rattle.json.proofs.Grammar.{value-begin_object}
use Rattle.member_names.specs.declared.reader.Reader.TheVariants as reader
use Rattle.member_names.specs.Passed.{Begins}
use Rattle.member_names.proofs.Placing.{place_is_told}
use Rattle.flag_doubts.proofs.Others.{none_taken}
use Rattle.flag_doubts.proofs.definition.in_definition.Goals as goal

pub returns-in-Object-clause-ok : goal.returns-in-Object-clause-ok
returns-in-Object-clause-ok c =
    let begun = subst (Begins c.args.depth c.args.reader.now c.begin.new.reader) c.in-Object.is c.in_ok-begin.ensures.ok in
    let opened = ap (value c.args.depth) begun.1 ∙ value-begin_object c.args.depth c.begin.new.reader begun.0 in
    IfOk-weaker c.in_rules.result _ _ (λ o read. (object read.0, opened ∙ ap (parse_map object) read.1, read.2)) c.in_rules.ensures.ok

pub returns-in-Object-clause-err : goal.returns-in-Object-clause-err
returns-in-Object-clause-err c = λ refused.
    let begun = subst (Begins c.args.depth c.args.reader.now c.begin.new.reader) c.in-Object.is c.in_ok-begin.ensures.ok in
    ap (value c.args.depth) begun.1 ∙ value-begin_object c.args.depth c.begin.new.reader begun.0 ∙ ap (parse_map object) (c.in_rules.ensures.err refused)

pub returns-in-Other-clause-ok : goal.returns-in-Other-clause-ok
returns-in-Other-clause-ok c =
    let begun = subst (Begins c.args.depth c.args.reader.now c.begin.new.reader) c.in-Other.is c.in_ok-begin.ensures.ok in
    (begun.0, begun.1, record { place = place_is_told _ begun.0 begun.2.1; all_read = sym (none_taken reader.Definition begun.0 begun.2.0) })

use Rattle.std.proofs.Common.{sym, ap, ◌∙◌, subst}
use Rattle.std.proofs.lemmas.Result.{IfOk-weaker}
use Rattle.json.specs.Json.{parse_map, value, object}
use Rattle.json.proofs.Grammar.{value-begin_object}
use Rattle.member_names.specs.Passed.{Begins}
use Rattle.flag_doubts.proofs.Others.{finds_nothing}
use Rattle.json.specs.Json.{max_depth}
use Rattle.flag_doubts.proofs.repeated.pass_document.Goals as goal
use Rattle.flag_doubts.proofs.repeated.pass_document.Goals.{in-Object, in-Other}

pub returns-clause-ok : goal.returns-clause-ok
returns-clause-ok c =
    elim c.match-branch-2.branch [
      | in-Object w ↦
          let begun = subst (Begins max_depth c.args.reader.now c.begin.new.reader) w.in-Object.is c.in_ok-begin.ensures.ok in
          let opened = ap (value max_depth) begun.1 ∙ value-begin_object max_depth c.begin.new.reader begun.0 in
          rw (w.result-is, w.reader-is) (IfOk-weaker w.in_members.result _ _ (λ r read. (object read.0, opened ∙ ap (parse_map object) read.1, read.2)) w.in_members.ensures.ok)
      | in-Other w ↦
          let begun = subst (Begins max_depth c.args.reader.now c.begin.new.reader) w.in-Other.is c.in_ok-begin.ensures.ok in
          rw (w.result-is, w.reader-is) (begun.0, begun.1, finds_nothing begun.0 w.nothing.result begun.2.0 w.nothing.ensures)
    ]

pub returns-clause-err : goal.returns-clause-err
returns-clause-err c = λ refused.
    elim c.match-branch-2.branch [
      | in-Object w ↦
          let begun = subst (Begins max_depth c.args.reader.now c.begin.new.reader) w.in-Object.is c.in_ok-begin.ensures.ok in
          ap (value max_depth) begun.1 ∙ value-begin_object max_depth c.begin.new.reader begun.0 ∙ ap (parse_map object) (w.in_members.ensures.err (sym w.result-is ∙ refused))
      | in-Other w ↦ let same = sym w.result-is ∙ refused in cc
    ]

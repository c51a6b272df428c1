use Rattle.std.proofs.Common.{sym, ap, ◌∙◌, subst}
use Rattle.std.proofs.lemmas.Result.{IfOk-weaker}
use Rattle.json.specs.Json.{parse_map, value, object}
use Rattle.json.proofs.Grammar.{value-begin_object}
use Rattle.member_names.specs.Passed.{Begins}
use Rattle.flag_doubts.proofs.Others.{finds_other}
use Rattle.flag_doubts.proofs.flags.in_flags.Goals as goal
use Rattle.flag_doubts.proofs.flags.in_flags.Goals.{in-Object, in-Other}

pub returns-clause-ok : goal.returns-clause-ok
returns-clause-ok c =
    elim c.match-branch-2.branch [
      | in-Object w ↦
          let begun = subst (Begins c.args.depth c.args.reader.now c.begin.new.reader) w.in-Object.is c.in_ok-begin.ensures.ok in
          let opened = ap (value c.args.depth) begun.1 ∙ value-begin_object c.args.depth c.begin.new.reader begun.0 in
          rw (w.result-is, w.reader-is) (IfOk-weaker w.in_definitions.result _ _ (λ r read. (object read.0, opened ∙ ap (parse_map object) read.1, read.2)) w.in_definitions.ensures.ok)
      | in-Other w ↦
          let begun = subst (Begins c.args.depth c.args.reader.now c.begin.new.reader) w.in-Other.is c.in_ok-begin.ensures.ok in
          rw (w.result-is, w.reader-is) (begun.0, begun.1, finds_other begun.0 w.none.result begun.2.0 w.none.ensures)
    ]

pub returns-clause-err : goal.returns-clause-err
returns-clause-err c = λ refused.
    elim c.match-branch-2.branch [
      | in-Object w ↦
          let begun = subst (Begins c.args.depth c.args.reader.now c.begin.new.reader) w.in-Object.is c.in_ok-begin.ensures.ok in
          ap (value c.args.depth) begun.1 ∙ value-begin_object c.args.depth c.begin.new.reader begun.0 ∙ ap (parse_map object) (w.in_definitions.ensures.err (sym w.result-is ∙ refused))
      | in-Other w ↦ let same = sym w.result-is ∙ refused in cc
    ]

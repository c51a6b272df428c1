use Rattle.std.proofs.Common.{◌≡◌, ◌++◌}
use Rattle.json.specs.Tree.{json_tokens, items_tokens}
use Rattle.flag_text.specs.Grammar.{written, items_written}
use Rattle.flag_text.specs.Shape.{list}
use Rattle.transport_core.specs.WrittenCertificate.{items_by}
use Rattle.plan_text.specs.PlanFile.{entry_written}
use Rattle.plan_text.proofs.writing.write_entries.Given as goal

-- what was written and what is written of the rest are all
abbrev pub invariant-loop-name : goal.invariant-loop-name
invariant-loop-name l = record {
  can : (goal.iterator-loop-name).can_next l.name-iterator;
  ends_soon : (goal.iterator-loop-name).is_finite l.name-iterator;
  before : l.out.before ≡ l.fn.out.before;
  tokens : l.out.tokens ++ items_tokens (items_written (items_by entry_written l.name-iterator)) ≡ l.fn.out.tokens ++ json_tokens (written (list (items_by entry_written l.rule)));
}

use Rattle.std.proofs.Common.{◌≡◌, ◌++◌, drop}
use Rattle.json.specs.Tree.{json_tokens, items_tokens}
use Rattle.flag_text.specs.Grammar.{written, items_written}
use Rattle.bucket_core.specs.Rule.{names_view}
use Rattle.flag_text.specs.Shape.{list, text}
use Rattle.transport_core.specs.WrittenCertificate.{items_by}
use Rattle.plan_text.proofs.writing.write_names.Given as goal

-- what was written and what is written of the rest are all
abbrev pub invariant-loop-name : goal.invariant-loop-name
invariant-loop-name l = record {
  before : l.out.before ≡ l.fn.out.before;
  tokens : l.out.tokens ++ items_tokens (items_written (items_by text (names_view (drop l.name-index l.names)))) ≡ l.fn.out.tokens ++ json_tokens (written (list (items_by text (names_view l.names))));
}

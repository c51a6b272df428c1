use Rattle.std.proofs.Common.{◌≡◌, ◌++◌, drop}
use Rattle.json.specs.Tree.{json_tokens, items_tokens}
use Rattle.flag_text.specs.Grammar.{written, items_written}
use Rattle.transport_core.specs.Certificate.{beta_view}
use Rattle.flag_text.specs.Shape.{list}
use Rattle.transport_core.specs.WrittenCertificate.{items_by, beta_written}
use Rattle.plan_text.proofs.writing.write_beta.Given as goal

-- what was written and what is written of the rest are all
abbrev pub invariant-loop-row : goal.invariant-loop-row
invariant-loop-row l = record {
  before : l.out.before ≡ l.fn.out.before;
  tokens : l.out.tokens ++ items_tokens (items_written (items_by beta_written (beta_view (drop l.row-index l.beta)))) ≡ l.fn.out.tokens ++ json_tokens (written (list (items_by beta_written (beta_view l.beta))));
}

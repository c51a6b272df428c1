use Rattle.std.proofs.Common.{◌≡◌, ◌<◌, ◌^◌, ◌++◌, drop, take}
use Rattle.std.specs.List.{All}
use Rattle.json.specs.Tree.{json_tokens, items_tokens}
use Rattle.flag_text.specs.Grammar.{written, items_written}
use Rattle.transport_core.specs.Certificate.{alpha_view}
use Rattle.flag_text.specs.Shape.{list}
use Rattle.transport_core.specs.WrittenCertificate.{items_by, alpha_written}
use Rattle.plan_text.proofs.writing.write_alpha.Given as goal

-- what was written and what is written of the rest are all
abbrev pub invariant-loop-row : goal.invariant-loop-row
invariant-loop-row l = record {
  before : l.out.before ≡ l.fn.out.before;
  tokens : l.out.tokens ++ items_tokens (items_written (items_by alpha_written (alpha_view (drop l.row-index l.alpha)))) ≡ l.fn.out.tokens ++ json_tokens (written (list (items_by alpha_written (alpha_view l.alpha))));
  counts : All (λ r. r.1 < 2 ^ 32) (take l.row-index l.alpha);
}

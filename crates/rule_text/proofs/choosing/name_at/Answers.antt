use Rattle.std.proofs.Common.{◌≡◌, [], drop, ◌∙◌, ap, arith}
use Rattle.std.proofs.lemmas.List.{drop_all}
use Rattle.bucket_core.specs.Rule.{total_weight}
use Rattle.rule_text.specs.Lent.{lent_view}
use Rattle.rule_text.proofs.Lending.{weight_next, named_here, named_past}
use Rattle.rule_text.proofs.choosing.name_at.Goals as goal

pub returns-then-rest-weight : goal.returns-then-rest-weight
returns-then-rest-weight c =
    let l = c.loop-name in
    l.invariant.same ∙ named_here c.args.entries.now l.name-index (omega arith) l.rest (omega arith)

pub loop-name-preserved : goal.loop-name-preserved
loop-name-preserved c =
    let l = c.loop-name in
    let es = c.args.entries.now in record {
      left = omega (arith, weight_next es l.name-index (omega arith), l.invariant.left);
      same = l.invariant.same ∙ named_past es l.name-index (omega arith) l.rest (omega arith);
    }

pub unreachable-requires : goal.unreachable-requires
unreachable-requires c =
    let l = c.loop-name in
    let none : drop l.name-index c.args.entries.now ≡ [] = drop_all l.name-index c.args.entries.now (omega arith) in
    absurd (omega (arith, l.invariant.left, ap (λ es. total_weight (lent_view es)) none))

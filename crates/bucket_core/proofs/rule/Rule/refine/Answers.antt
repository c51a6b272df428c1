use Rattle.std.proofs.Common.{◌≡◌, ◌*◌, ap, arith, ◌∙◌}
use Rattle.std.proofs.Math.Nat.{mul-pos}
use Rattle.bucket_core.specs.Rule.{IsRuleTotal, all_named, names_view, refinement, total_weight}
use Rattle.bucket_core.proofs.Named.{AreNamed-weights, refinement_named, weight_named}
use Rattle.bucket_core.proofs.Refined.{total_weight-refinement, choice-refinement, rule_of_entries-good, rule_of_entries-heavy}
use Rattle.bucket_core.proofs.rule.Rule.refine.Goals as goal
use Rattle.bucket_core.proofs.rule.Rule.refine.Goals.{In_ok-refined, In_ok-of_named}

pub returns-then-from-clause-exact : goal.returns-then-from-clause-exact
returns-then-from-clause-exact c = λ _.
    let product : c.from.result * c.from-2.result ≡ total_weight c.args.self.now * c.args.m = cc in
    rule_of_entries-heavy (refinement c.args.m c.args.self.now) (omega (arith, c.if-from.true, product, total_weight-refinement c.args.m c.args.self.now))

pub refined-requires : goal.refined-requires
refined-requires c =
    let names = names_view c.self.inside.names.items in
    let es = c.self.inside.entries.items in
    let product : c.from.result * c.from-2.result ≡ total_weight c.args.self.now * c.args.m = cc in
    rw (c.deref-2.ensures.value, ← weight_named names es, c.self.view_is) (omega (arith, c.if-from.false, product))

made : (c : In_ok-refined) → all_named (names_view c.in_ok-names.names.items) c.in_ok-refined.field-0.items ≡ refinement c.args.m c.args.self.now
made c = rw (c.in_ok-names.ensures, c.deref.ensures.value, c.in_ok-refined.ensures, c.deref-2.ensures.value)
    (refinement_named (names_view c.self.inside.names.items) c.args.m c.self.inside.entries.items ∙ ap (refinement c.args.m) c.self.view_is)

pub of_named-requires : goal.of_named-requires
of_named-requires c =
    let r = c.args.self.now in
    let product : c.from.result * c.from-2.result ≡ total_weight r * c.args.m = cc in
    let total = total_weight-refinement c.args.m r in
    let is = ap total_weight (made c) in record {
      named = rw (c.in_ok-names.ensures, c.deref.ensures.value, c.in_ok-refined.ensures, c.deref-2.ensures.value)
          (AreNamed-weights (names_view c.self.inside.names.items) c.args.m c.self.inside.entries.items c.self.invariant.named);
      total = record {
        some = omega (arith, is, total, mul-pos c.total.ensures.allowed.some c.requires, ap (λ k. k * c.args.m) c.total.ensures.value);
        small = omega (arith, is, total, c.if-from.false, product);
      };
    }

rule_is : (c : In_ok-of_named) → c.in_ok-of_named.field-0 ≡ refinement c.args.m c.args.self.now
rule_is c = rw (c.in_ok-of_named.ensures, c.in_ok-names.ensures, c.deref.ensures.value, c.in_ok-refined.ensures, c.deref-2.ensures.value)
    (refinement_named (names_view c.self.inside.names.items) c.args.m c.self.inside.entries.items ∙ ap (refinement c.args.m) c.self.view_is)

pub returns-clause-exact : goal.returns-clause-exact
returns-clause-exact c =
    let r = c.args.self.now in
    let product : c.from.result * c.from-2.result ≡ total_weight r * c.args.m = cc in
    let total = total_weight-refinement c.args.m r in
    let whole : IsRuleTotal (total_weight (refinement c.args.m r)) = record {
      some = omega (arith, total, mul-pos c.total.ensures.allowed.some c.requires, ap (λ k. k * c.args.m) c.total.ensures.value);
      small = omega (arith, total, c.if-from.false, product);
    } in
    rw (rule_is c) (rule_of_entries-good (refinement c.args.m r) whole)

pub returns-clause-same : goal.returns-clause-same
returns-clause-same c = λ key. rw (rule_is c) (choice-refinement c.args.m c.args.self.now key c.requires)

pub returns-clause-total : goal.returns-clause-total
returns-clause-total c = rw (rule_is c) (total_weight-refinement c.args.m c.args.self.now)

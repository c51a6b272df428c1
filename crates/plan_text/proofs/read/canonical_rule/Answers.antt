use Rattle.bucket_core.specs.Rule.{entries_view}
use Rattle.plan_text.proofs.Orders.{canonical_ok, canonical_err}
use Rattle.plan_text.proofs.read.canonical_rule.Goals as goal

pub returns-then-is_canonical : goal.returns-then-is_canonical
returns-then-is_canonical c =
    canonical_ok (entries_view c.args.entries.items) c.in-Ok.rule c.in-Ok.ensures.exact (c.is_canonical.ensures.value.0 c.if-is_canonical.true)

pub returns-else-is_canonical : goal.returns-else-is_canonical
returns-else-is_canonical c = λ _.
    canonical_err (entries_view c.args.entries.items) c.in-Ok.rule c.is_canonical.result c.in-Ok.ensures.exact c.is_canonical.ensures.value c.if-is_canonical.false

use Rattle.std.proofs.Common.{◌≡◌, ◌<◌, drop}
use Rattle.bucket_core.specs.Rule.{at, total_weight}
use Rattle.rule_text.specs.Lent.{lent_view}
use Rattle.rule_text.proofs.choosing.name_at.Given as goal

-- the point is one of the entries that are left, behind the points of those before
abbrev pub invariant-loop-name : goal.invariant-loop-name
invariant-loop-name l = record {
  left : l.rest < total_weight (lent_view (drop l.name-index l.entries));
  same : at (lent_view l.entries) l.point ≡ at (lent_view (drop l.name-index l.entries)) l.rest;
}

use Rattle.std.proofs.Common.{◌↔◌}
use Rattle.bucket_core.specs.Canonical.{IsCanonical}
use Rattle.bucket_core.proofs.Runs.{Follows}
use Rattle.bucket_core.proofs.weights.is_canonical.Given as goal

abbrev pub invariant-loop-name : goal.invariant-loop-name
invariant-loop-name l = record {
  can : (goal.iterator-loop-name).can_next l.name-iterator;
  ends_soon : (goal.iterator-loop-name).is_finite l.name-iterator;
  alike : IsCanonical l.fn.entries ↔ Follows l.before l.name-iterator;
}

-- The set is over the high limits.
use Rattle.std.proofs.Common.{◌≡◌}
use Rattle.transport_core.specs.declared.certificate.CutKind.TheVariants.{Over, Under}
use Rattle.transport_plan.proofs.solving.cut_over.Goals as goal

apart : Over ≡ Under → ⊥
apart is = cc

pub returns : goal.returns
returns c = record {
  proved = tt;
  least = tt;
  whole = tt;
  deficient = c.in_ok-names.ensures.over;
  under = λ is. absurd (apart is);
  ordered = c.in_ok-names.ensures.ordered;
}

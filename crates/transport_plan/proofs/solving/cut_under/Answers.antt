-- The set is under the low limits, and none is over the high ones.
use Rattle.transport_plan.proofs.solving.cut_under.Goals as goal

pub returns : goal.returns
returns c = record {
  proved = tt;
  least = tt;
  whole = tt;
  deficient = c.in_ok-names.ensures.under;
  under = λ is. c.names_under.ensures.never;
  ordered = c.in_ok-names.ensures.ordered;
}

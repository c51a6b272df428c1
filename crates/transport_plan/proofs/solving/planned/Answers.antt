-- The certificate proves the cost for each rule of lawful groups.
use Rattle.transport_core.specs.Certificate.{certificate_view}
use Rattle.transport_plan.proofs.Plans.{plan_of}
use Rattle.transport_plan.proofs.solving.planned.Goals as goal

pub returns : goal.returns
returns c = record {
  proved = c.in_ok-certificate.ensures.proved;
  least = plan_of c.args.instance.now c.args.flow.placed.items (certificate_view c.in_ok-certificate.certificate) c.groups-groups.ensures.lawful c.in_ok-certificate.ensures.proved;
  whole = c.in_ok-certificate.ensures.whole;
  deficient = tt;
  under = tt;
  ordered = tt;
}

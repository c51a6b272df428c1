use Rattle.std.proofs.Common.{sym, subst}
use Rattle.service_layers.proofs.dated.DatedService.call.Goals as goal

-- counting changes neither the date nor the service
pub returns-clause-ok : goal.returns-clause-ok
returns-clause-ok g c = (
  c.count_time.ensures.date,
  (
    c.call.new.response,
    subst (g.S.Service.answers c.args.self.now.service c.args.request.now c.call.new.response) (sym c.count_time.ensures.service) c.in_ok-call.ensures.ok,
    c.add_to.ensures,
  ),
)

use Rattle.std.proofs.Common.{◌∙◌}
use Rattle.ofrep_worker.proofs.Recorded.{counted}
use Rattle.ofrep_worker.proofs.worker.OfrepWorkerService.call.Goals as goal

-- counting changes neither the seat nor the log
pub returns-clause-ok : goal.returns-clause-ok
returns-clause-ok g c = (
  c.count_log.ensures.without ∙ c.respond_or_leave.ensures.without,
  counted c.args.self.now.without_record c.args.self.now.seat c.respond_or_leave.new.self.seat c.count_log.new.self.seat c.args.request.now c.respond_or_leave.new.response
      c.args.self.now.log c.respond_or_leave.new.self.log c.count_log.new.self.log c.count_log.ensures.seat c.count_log.ensures.log c.respond_or_leave.ensures.responds,
)

use Rattle.std.proofs.Common.{arith}
use Rattle.logic_eval.proofs.Budgets.{spends_within, spends_above}
use Rattle.logic_eval.specs.Views.{progress}
use Rattle.logic_eval.proofs.meter.Meter.pay.Goals as goal

pub returns-then-units-self : goal.returns-then-units-self
returns-then-units-self c = record { exact = λ n. spends_above (progress c.args.self.now) c.args.units (omega arith) }

pub returns : goal.returns
returns c = record { exact = spends_within (progress c.args.self.now) c.args.units (omega arith) }

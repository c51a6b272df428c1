use Rattle.std.proofs.Common.{sym, arith}
use Rattle.plan_text.proofs.Lengths.{is_bucket-long}
use Rattle.plan_text.proofs.misfit.is_bucket.Goals as goal

pub returns-in-len3-up : goal.returns-in-len3-up
returns-in-len3-up c = sym (is_bucket-long c.args.parts.now (omega arith))

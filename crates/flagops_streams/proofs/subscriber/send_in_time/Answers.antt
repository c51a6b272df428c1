use Rattle.std.proofs.Common.{inr}
use Rattle.flagops_streams.proofs.subscriber.send_in_time.Goals as goal

pub returns : goal.returns
returns g c = inr c.send_over.ensures

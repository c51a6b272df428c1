use Rattle.flagops_streams.proofs.Reasons.{lent_at}
use Rattle.flagops_streams.proofs.remark.path_at.Goals as goal

pub returns : goal.returns
returns c = lent_at (λ p. p.now) c.args.paths.now c.saturating_sub.result c.args.place c.get.result c.copied.result c.saturating_sub.ensures c.get.ensures.lookup c.copied.ensures

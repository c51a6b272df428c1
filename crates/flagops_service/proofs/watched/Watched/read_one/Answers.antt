use Rattle.std.proofs.Common.{inl}
use Rattle.flagops_service.proofs.watched.Watched.read_one.Goals as goal

-- what is taken is what the file at the path holds
pub returns-in-Ok-clause-reads : goal.returns-in-Ok-clause-reads
returns-in-Ok-clause-reads g c = inl (c.in-Ok.text, c.in-Ok.ensures.exact, c.take.ensures.takes)

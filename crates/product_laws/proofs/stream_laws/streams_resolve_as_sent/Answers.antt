use Rattle.product_laws.proofs.Resolved.{resolves, resolves_floats}
use Rattle.product_laws.proofs.stream_laws.streams_resolve_as_sent.Goals as goal

pub returns-clause-plain : goal.returns-clause-plain
returns-clause-plain c = resolves

pub returns-clause-floats : goal.returns-clause-floats
returns-clause-floats c = resolves_floats

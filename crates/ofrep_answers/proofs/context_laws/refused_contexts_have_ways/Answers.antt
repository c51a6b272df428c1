use Rattle.ofrep_answers.proofs.Ways.{ways}
use Rattle.ofrep_answers.proofs.context_laws.refused_contexts_have_ways.Goals as goal

pub returns : goal.returns
returns c = record { ways = ways }

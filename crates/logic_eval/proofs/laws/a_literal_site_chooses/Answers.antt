use Rattle.logic_eval.proofs.Branching.{literal_site}
use Rattle.logic_eval.proofs.laws.a_literal_site_chooses.Goals as goal

pub returns : goal.returns
returns c = literal_site

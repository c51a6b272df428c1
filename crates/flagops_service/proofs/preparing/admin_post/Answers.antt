use Rattle.flagops_service.specs.Words.{answering_view}
use Rattle.flagops_service.proofs.preparing.admin_post.Goals as goal

pub returns-in-Err-clause-unready : goal.returns-in-Err-clause-unready
returns-in-Err-clause-unready g c = c.why_unready.ensures (answering_view c.args.answering.now)

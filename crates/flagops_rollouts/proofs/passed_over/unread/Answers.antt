use Rattle.flagops_rollouts.proofs.Said.{request_told}
use Rattle.flagops_rollouts.proofs.passed_over.unread.Goals as goal

pub returns-clause-parts : goal.returns-clause-parts
returns-clause-parts c =
    request_told c.args.path.now c.args.bytes.now c.in_ok-unread.unread c.in_ok-repeated.repeated c.with_more.result c.in_ok-unread.ensures.told c.in_ok-unread.ensures.notes
    c.in_ok-repeated.ensures.told c.in_ok-repeated.ensures.notes c.with_more.ensures.both

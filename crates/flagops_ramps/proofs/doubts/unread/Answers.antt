use Rattle.flagops_ramps.proofs.Noted.{steps_told}
use Rattle.flagops_ramps.proofs.doubts.unread.Goals as goal

pub returns-clause-parts : goal.returns-clause-parts
returns-clause-parts c =
    steps_told c.args.path.now c.args.bytes.now c.in_ok-unread.unread c.in_ok-repeated.repeated c.with_more.result c.in_ok-unread.ensures.unread c.in_ok-unread.ensures.notes c.in_ok-repeated.ensures.told c.in_ok-repeated.ensures.notes
    c.with_more.ensures.both

use Rattle.flag_defs.specs.Flags.{flags_view}
use Rattle.book_share.proofs.Made.{none_known}
use Rattle.book_share.proofs.known.known_pages.Goals as goal

pub loop-ask-init : goal.loop-ask-init
loop-ask-init c = none_known (flags_view c.args.flags.now) c.new-known.result.entries c.new-known.ensures.empty

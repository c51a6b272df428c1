use Rattle.library_seat.proofs.Feeds.{nothing_came}
use Rattle.library_seat.proofs.feeding.new_feed.Goals as goal

pub returns : goal.returns
returns c = nothing_came c.new.result.last c.new.result.kept.items c.new.result.stage c.new.ensures.fed c.new.ensures.fresh

use Rattle.sync_frames.proofs.Feeds.{opening}
use Rattle.sync_frames.proofs.feed.Feed.new.Goals as goal

pub returns-clause-fed : goal.returns-clause-fed
returns-clause-fed c = opening c.new.result.items c.new.ensures.items

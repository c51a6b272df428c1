use Rattle.std.proofs.Common.{◌++◌}
use Rattle.page_tally.proofs.Lacking.{stretch_joined}
use Rattle.page_tally.proofs.stretch.Stretch.joined.Goals as goal

pub returns-then-self-behind : goal.returns-then-self-behind
returns-then-self-behind c = λ bytes key had end next.
    (had.0 ++ next.0, stretch_joined bytes c.args.behind.now key had.0 next.0 c.args.self c.args.next had.1 end next.1 c.if-not-self.true c.if-self-behind.true)

use Rattle.std.proofs.Common.{arith}
use Rattle.std.proofs.lemmas.Grind.{common_steps}
use Rattle.library_seat.proofs.Feeds.{newest}
use Rattle.library_seat.proofs.feeding.newest_of.Goals as goal

pub returns : goal.returns
returns c =
    newest c.args.snapshots.items c.pop.new.self.items c.pop.result c.pop.ensures.items
    (λ none. grind (arith, common_steps, c.args.snapshots.ok, c.pop.ensures.variant, c.pop.ensures.cases, none))

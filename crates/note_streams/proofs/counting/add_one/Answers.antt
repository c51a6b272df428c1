use Rattle.std.proofs.Common.{◌≡◌, rules}
use Rattle.note_streams.proofs.LogCounted.{set_one}
use Rattle.note_streams.specs.Counts.{counted_on}
use Rattle.note_streams.proofs.counting.add_one.Goals as goal

pub returns : goal.returns
returns c =
    let is : c.unwrap_or-count.result ≡ counted_on c.args.counts.now.entries c.args.page = search rules in
    set_one c.args.counts.now.entries c.insert.new.self.entries c.args.page c.unwrap_or-count.result is c.in_ok-insert.ensures.updates.0

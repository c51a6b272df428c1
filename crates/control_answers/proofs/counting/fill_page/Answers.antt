use Rattle.std.proofs.Common.{◌≡◌, rules}
use Rattle.note_streams.specs.Counts.{counted_on}
use Rattle.control_answers.proofs.Filled.{fills_one}
use Rattle.control_answers.proofs.counting.fill_page.Goals as goal

pub returns : goal.returns
returns c =
    let is : c.unwrap_or-count.result ≡ counted_on c.args.counts.now.entries c.args.page = search rules in
    fills_one c.args.counts.now.entries c.args.page c.unwrap_or-count.result is c.insert.new.self.entries c.in_ok-insert.ensures.updates.0

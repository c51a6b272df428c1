use Rattle.flag_metadata.proofs.Sorted.{put_flag}
use Rattle.flag_metadata.proofs.read.insert.Goals as goal

pub returns : goal.returns
returns c = put_flag c.args.found.now.entries c.insert.new.self.entries c.args.key c.args.members c.in_ok-insert.ensures.entries

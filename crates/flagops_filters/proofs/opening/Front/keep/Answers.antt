use Rattle.std.proofs.Common.{rules}
use Rattle.flagops_filters.proofs.Kept.{more_kept}
use Rattle.flagops_filters.proofs.opening.Front.keep.Goals as goal

pub returns : goal.returns
returns c = more_kept c.args.self.now.count c.min-count.result c.args.self.now.bytes c.args.more.now c.copy_from_slice.new.self (search rules) (search rules) c.min-count.ensures c.copy_from_slice.ensures.after

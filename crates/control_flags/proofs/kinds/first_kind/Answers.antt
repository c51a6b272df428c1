use Rattle.std.proofs.Common.{sym}
use Rattle.flag_defs.specs.Flag.{flag_view}
use Rattle.control_flags.proofs.First.{of_broken}
use Rattle.control_flags.proofs.kinds.first_kind.Goals as goal

pub returns-then-is_broken : goal.returns-then-is_broken
returns-then-is_broken c = of_broken (flag_view c.args.flag.now) (sym c.if-is_broken.ensures)

use Rattle.std.proofs.Common.{rules}
use Rattle.flagops_compare.proofs.telling.no_page_lines.Goals as goal

pub returns : goal.returns
returns c = rw (← c.in_ok-path.ensures, ← c.in_ok-flag.ensures, ← c.in_ok-known.ensures) (search rules)

use Rattle.std.proofs.Common.{string_bytes}
use Rattle.flagops_streams.proofs.remark.lines_about.Goals as goal

pub returns : goal.returns
returns c = (string_bytes c.in_ok-lines.lines, c.in_ok-lines.ensures.names, c.in_ok-push_str.ensures.bytes)

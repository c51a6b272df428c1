use Rattle.std.proofs.Common.{rules}
use Rattle.flagops_commands.proofs.Hexadecimal.{written}
use Rattle.flagops_commands.proofs.rules.bucket.eight_hex_digits.Goals as goal

pub returns : goal.returns
returns c = let same = written c.args.n c.ranges.n.fits in search (rules, same)

use Rattle.std.proofs.Common.{sym, arith}
use Rattle.flag_references.proofs.Named.{reference_of-many}
use Rattle.kept_document.proofs.following.reference_of.Goals as goal

pub returns-in-len2-up : goal.returns-in-len2-up
returns-in-len2-up c = sym (reference_of-many c.args.members.now (omega arith))

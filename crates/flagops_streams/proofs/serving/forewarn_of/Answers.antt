use Rattle.std.proofs.Common.{inr, sym}
use Rattle.flagops_streams.proofs.serving.forewarn_of.Goals as goal

-- the document at the place is told of by its path
pub returns-in_default-fault-clause-told : goal.returns-in_default-fault-clause-told
returns-in_default-fault-clause-told g c = inr (c.in-Some.path.now, sym c.in-Some.ensures, (c.in-Err.fault, c.in-Err.ensures.means c.in_default-fault.not-WantOfMemory), c.say_forewarning.ensures.line c.in_default-fault.not-WantOfMemory)

use Rattle.std.proofs.Common.{length}
use Rattle.flagops_pictures.proofs.ramps.+add_steps.Given as goal

abbrev pub decreases-add_steps : goal.decreases-add_steps
decreases-add_steps g l = length l.steps.now

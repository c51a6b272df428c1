-- The counter is named by its blank.
use Rattle.rollout.proofs.tallied.plan_tally.Given as goal

abbrev pub ghosts-plan_asked : goal.ghosts-plan_asked
ghosts-plan_asked a = record { name = a.blank.name; parts = a.blank.parts }

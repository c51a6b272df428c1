-- The counter is named by its blank.
use Rattle.rollout.proofs.planner.plan_file.Given as goal

abbrev pub ghosts-plan_asked : goal.ghosts-plan_asked
ghosts-plan_asked g a = record { name = a.blank.name; parts = a.blank.parts }

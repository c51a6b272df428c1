-- The counter is named by its blank.
use Rattle.upper_tests.proofs.sealed.frozen_cost.Given as goal

abbrev pub ghosts-solved_cost : goal.ghosts-solved_cost
ghosts-solved_cost g a = record { name = a.blank.name; parts = a.blank.parts }

use Rattle.std.proofs.Common.{◌≡◌, drop}
use Rattle.upper_tests.specs.Memory.{held_in}
use Rattle.upper_tests.proofs.memory.find.Given as goal

abbrev pub invariant-loop-name : goal.invariant-loop-name
invariant-loop-name l = held_in (drop l.name-index l.files) l.path ≡ held_in l.files l.path

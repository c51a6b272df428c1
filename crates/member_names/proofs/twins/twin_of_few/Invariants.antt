use Rattle.std.proofs.Common.{◌≡◌, [], drop, take}
use Rattle.member_names.specs.Places.{first_again}
use Rattle.member_names.proofs.SecondNames.{again, among, names_of}
use Rattle.member_names.proofs.twins.twin_of_few.Given as goal

abbrev pub invariant-loop-i : goal.invariant-loop-i
invariant-loop-i l = again (among (take l.i l.names)) (drop l.i l.names) ≡ first_again [] (names_of l.names)

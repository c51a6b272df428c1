use Rattle.std.proofs.Common.{◌≡◌, [], drop}
use Rattle.std.specs.BTreeSet.{contains}
use Rattle.std.specs.Cmp.Lexicographic.{slice_cmp}
use Rattle.std.specs.Ordering.{nat_cmp}
use Rattle.member_names.specs.Places.{first_again}
use Rattle.member_names.proofs.SecondNames.{again, names_of}
use Rattle.member_names.proofs.twins.twin_of_many.Given as goal

abbrev pub invariant-loop-name : goal.invariant-loop-name
invariant-loop-name l = again (contains (λ x y. slice_cmp nat_cmp x.now y.now) l.met) (drop l.name-index l.names) ≡ first_again [] (names_of l.names)

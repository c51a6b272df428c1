use Rattle.std.proofs.Common.{◌≡◌, ◌++◌}
use Rattle.std.specs.Vec.Iter.{into_iter_items}
use Rattle.flagops.proofs.words.behind_name.Given as goal

abbrev pub invariant-loop-word : goal.invariant-loop-word
invariant-loop-word l = l.behind.items ++ into_iter_items l.word-iterator ≡ into_iter_items l.initial.word-iterator

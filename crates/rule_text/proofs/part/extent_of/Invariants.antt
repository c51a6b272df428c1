use Rattle.std.proofs.Common.{◌≡◌}
use Rattle.rule_text.specs.Parts.{extents_view, all_extents}
use Rattle.rule_text.proofs.part.extent_of.Given as goal

abbrev pub invariant-loop-member : goal.invariant-loop-member
invariant-loop-member l = l.extent ≡ all_extents (extents_view l.yielded)

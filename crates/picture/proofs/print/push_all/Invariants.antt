use Rattle.std.proofs.Common.{◌≡◌, ◌++◌, drop, string_bytes}
use Rattle.std.specs.List.{flat_map}
use Rattle.picture.specs.Spelling.{spelled}
use Rattle.picture.proofs.print.push_all.Given as goal

-- what is written so far, and the rest
abbrev pub invariant-loop-element : goal.invariant-loop-element
invariant-loop-element l = string_bytes l.out ++ flat_map spelled (drop l.element-index l.elements) ≡ string_bytes l.fn.out ++ flat_map spelled l.elements

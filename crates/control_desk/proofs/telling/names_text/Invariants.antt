use Rattle.std.proofs.Common.{◌≡◌, ◌++◌, drop, false, map, string_bytes}
use Rattle.control_desk.specs.Bodies.{names_text}
use Rattle.control_desk.proofs.telling.names_text.Given as goal

-- the names so far, and those of what is left, are all
abbrev pub invariant-loop-name : goal.invariant-loop-name
invariant-loop-name l = string_bytes l.out ++ names_text l.later (map string_bytes (drop l.name-index l.names)) ≡ names_text false (map string_bytes l.names)

-- The values of the program, without where their parts lie in memory.
use Rattle.std.specs.Prelude.{ℕ, List, Bool, String, Vec, string_bytes}
use Rattle.std.specs.declared.alloc.Global.{Global}
use Rattle.library_rollouts.specs.declared.planning.PlanLine.{PlanLine}

-- a text, beside which nothing is told
abbrev pub text_view : String Global → List ℕ × Unit {0}
text_view s = (string_bytes s, tt)

abbrev pub bytes_view : Vec ℕ Global → List ℕ × Unit {0}
bytes_view v = (v.items, tt)

-- a plan file, and whether it has a rule
abbrev pub line_view : PlanLine → List ℕ × Bool
line_view p = (p.line.items, p.has_rule)

-- that an answer is right
abbrev pub right_view : Unit {0} → Unit {0}
right_view right = right

use Rattle.std.proofs.Common.{◌≡◌, ◌++◌, drop}
use Rattle.picture.specs.Told.{headings_told, told}
use Rattle.picture.proofs.rows.add_headings.Given as goal

-- what is told so far, and what the rest tells
abbrev pub invariant-loop-style : goal.invariant-loop-style
invariant-loop-style l = told l.elements.items ++ headings_told l.y (drop l.style-index l.headings) ≡ told l.fn.elements.items ++ headings_told l.y l.headings

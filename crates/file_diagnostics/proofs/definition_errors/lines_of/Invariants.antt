use Rattle.std.proofs.Common.{◌++◌, ℕ, List, drop, string_bytes}
use Rattle.flag_text.specs.View.{members_view}
use Rattle.file_diagnostics.specs.Broken.{BrokenLines}
use Rattle.file_diagnostics.proofs.definition_errors.lines_of.Given as goal

abbrev pub invariant-loop-i : goal.invariant-loop-i
invariant-loop-i l =
    (rest : List ℕ) → BrokenLines (members_view (drop l.i l.flags)) (drop l.i l.found) rest → BrokenLines (members_view l.flags) l.found (string_bytes l.text ++ rest)

use Rattle.std.proofs.Common.{◌≡◌, ◌++◌, drop, string_bytes}
use Rattle.flagops_compare.specs.Told.{note_lines}
use Rattle.flagops_compare.proofs.telling.note_lines.Given as goal
use Rattle.rule_switches.specs.Found.{pages_view}

abbrev pub invariant-loop-page : goal.invariant-loop-page
invariant-loop-page l = string_bytes l.out ++ note_lines l.asked.old.now l.asked.new.now (pages_view (drop l.page-index l.pages)) ≡ note_lines l.asked.old.now l.asked.new.now (pages_view l.pages)

use Rattle.std.proofs.Common.{ℕ, List, drop, string_bytes}
use Rattle.flag_defs.specs.Flags.{flags_view}
use Rattle.picture.specs.Spelling.{Continues}
use Rattle.flagops_compare.specs.Drawn.{compared_drawn}
use Rattle.rule_switches.specs.Found.{pages_view}
use Rattle.flagops_compare.proofs.drawing.add_pages.Given as goal

-- the pictures of the pages that are left end where all end
abbrev pub invariant-loop-page : goal.invariant-loop-page
invariant-loop-page l =
    let old = flags_view l.edit.old.now in
    let new = flags_view l.edit.new.now in
    (end : ℕ) (after : List ℕ) → Continues (compared_drawn old new (pages_view (drop l.page-index l.pages))) l.y end (string_bytes l.pictures) after → Continues (compared_drawn old new (pages_view l.pages)) 0 end (string_bytes l.fn.pictures) after

use Rattle.std.proofs.Common.{◌≡◌, ◌++◌, drop, flat_map, string_bytes}
use Rattle.flagops_compare.specs.Printed.{page_text}
use Rattle.flagops_compare.proofs.printing.push_pages.Given as goal
use Rattle.rule_switches.specs.Found.{pages_view}

abbrev pub invariant-loop-page : goal.invariant-loop-page
invariant-loop-page l = string_bytes l.out ++ flat_map (page_text l.json) (pages_view (drop l.page-index l.pages)) ≡ string_bytes l.fn.out ++ flat_map (page_text l.json) (pages_view l.pages)

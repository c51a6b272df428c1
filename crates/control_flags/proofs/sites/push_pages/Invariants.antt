use Rattle.std.proofs.Common.{◌≡◌, ◌++◌, drop, map, string_bytes}
use Rattle.logic_ast.specs.Expr.{view}
use Rattle.control_flags.specs.Sites.{site_row}
use Rattle.control_flags.proofs.sites.push_pages.Given as goal

abbrev pub invariant-loop-page : goal.invariant-loop-page
invariant-loop-page l =
    map string_bytes l.rows.items ++ map (site_row l.recorded.entries (view l.targeting)) (drop l.page-index l.pages)
    ≡ map string_bytes l.fn.rows.items ++ map (site_row l.recorded.entries (view l.targeting)) l.pages

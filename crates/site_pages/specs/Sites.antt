-- The number and the bucketing expression of a site, in private contracts alone.
use denote.Ref.{Bor}
use Rattle.std.specs.Prelude.{ℕ, Option, Some, None}
use Rattle.logic_ast.specs.Expression.{By, no_by, by}
use Rattle.logic_ast.specs.Sites.{Site}
use Rattle.logic_ast.specs.View.{node_view}
use Rattle.logic_ast.specs.declared.node.Node.{Node}
use Rattle.site_pages.specs.declared.sites.Place.{Place}

-- of a node of the program
abbrev pub by_view : Option (Bor Node) → By
by_view None = no_by
by_view (Some node) = by (node_view node.now)

abbrev pub place_view : Place → ℕ × By
place_view p = (p.site, by_view p.by)

-- of a site of the definition
abbrev pub place_of : Site → ℕ × By
place_of s = (s.number, s.bucketing)

-- What `site` gives.
use Rattle.std.specs.Prelude.{option_map}
use Rattle.bucket_core.specs.Rule.{Entries, entries_view}
use Rattle.logic_ast.specs.Expr.{view}
use Rattle.logic_ast.specs.Expression.{By}
use Rattle.logic_ast.specs.View.{by_of}
use Rattle.logic_ast.specs.declared.expr.Site.{Site}

-- the bucketing expression and the entries
abbrev pub site_view : Site → By × Entries
site_view s = (by_of (option_map view s.by), entries_view s.entries.items)

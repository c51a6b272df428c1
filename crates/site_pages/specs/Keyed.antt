-- The page of a site by the key of its flag: that of the site's bucketing expression, where the flag has such a site with one.
use Rattle.std.specs.Prelude.{ℕ, List, Option, Some, None, Result, Ok, Err, option_and_then}
use Rattle.std.specs.Map.{lookup}
use Rattle.std.specs.Str.{bytes_eq}
use Rattle.logic_ast.specs.Expression.{Expression}
use Rattle.logic_ast.specs.Writing.{by_text_at}
use Rattle.logic_ast.specs.declared.fault.LogicFault.{LogicFault}
use Rattle.flag_defs.specs.Document.{Definitions}
use Rattle.flag_defs.specs.Flag.{targeting_in}
use Rattle.book_core.specs.Page.{PageName}

-- the targeting of the flag of a key
abbrev pub targeting_of : Definitions → List ℕ → Option Expression
targeting_of flags key = option_and_then targeting_in (lookup (bytes_eq key) flags)

-- the text of a bucketing expression, where there is one
abbrev pub text_in : Result (Option (List ℕ)) LogicFault → Option (List ℕ)
text_in (Ok by) = by
text_in (Err fault) = None

-- the text of the bucketing expression at a site of a targeting
abbrev pub by_at : Option Expression → ℕ → Option (List ℕ)
by_at None site = None
by_at (Some targeting) site = text_in (by_text_at site targeting)

-- the page of a site of the flag of this key
abbrev pub page_of : List ℕ → Option Expression → ℕ → PageName
page_of key targeting site = record { flag = key; site = site; by = by_at targeting site }

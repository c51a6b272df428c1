-- The page of a site of a targeting.
use Rattle.std.specs.Prelude.{ℕ, List, Option, Result, Ok, Err}
use Rattle.logic_ast.specs.Expression.{Expression}
use Rattle.logic_ast.specs.Writing.{by_text_at}
use Rattle.logic_ast.specs.declared.fault.LogicFault.{LogicFault}
use Rattle.book_core.specs.Page.{PageName}

abbrev pub with_by : List ℕ → ℕ → Result (Option (List ℕ)) LogicFault → Result PageName LogicFault
with_by flag site (Ok by) = Ok (record { flag = flag; site = site; by = by })
with_by flag site (Err fault) = Err fault

-- the flag, the site, and the text of the bucketing expression at that site
unfoldable pub page_at : List ℕ → ℕ → Expression → Result PageName LogicFault
page_at flag site targeting = with_by flag site (by_text_at site targeting)

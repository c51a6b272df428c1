-- The pages of the sites of a targeting.
use Rattle.std.specs.Prelude.{◌≡◌, ℕ, List, slice_get, Option, Some, None, Result, Ok, Err}
use Rattle.logic_ast.specs.Expression.{Expression, By}
use Rattle.logic_ast.specs.Writing.{by_text}
use Rattle.logic_ast.specs.declared.fault.LogicFault.{LogicFault}
use Rattle.logic_ast.specs.declared.fault.LogicFault.TheVariants.{NoSite}
use Rattle.book_core.specs.Page.{PageName}
use Rattle.book_core.specs.Site.{page_at}

abbrev pub or_no_site : Option PageName → Result PageName LogicFault
or_no_site None = Err NoSite
or_no_site (Some page) = Ok page

-- at each number stands the page of the site of that number, and there is none where the targeting has no such site
abbrev pub ArePages : List ℕ → Expression → List PageName → Type 0
ArePages flag targeting pages = (n : ℕ) → or_no_site (slice_get pages n) ≡ page_at flag n targeting

-- the page of a site of this number and this bucketing expression
abbrev pub page_with : List ℕ → ℕ × By → PageName
page_with flag site = record { flag = flag; site = site.0; by = by_text site.1 }

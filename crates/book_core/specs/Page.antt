-- The pages of a book: one for each `fractional` operation of a flag (https://flagd.dev/reference/custom-operations/fractional-operation/).
use Rattle.std.specs.Prelude.{ℕ, List, Option, Bool}
use Rattle.std.specs.declared.cmp.Ordering.{Ordering}
use Rattle.std.specs.Ordering.{nat_cmp, ordering_then, is_eq}
use Rattle.std.specs.Option.{option_cmp}
pub use Rattle.exposures.specs.Exposure.{bytes_cmp}

-- a flag's key, the number of the operation in its targeting from 0 in preorder, and the text of its bucketing expression
pub record PageName : Type 0 where
  pub flag : List ℕ
  pub site : ℕ
  pub by : Option (List ℕ)

-- by flag, then by site, then by bucketing expression, none first
abbrev pub page_cmp : PageName → PageName → Ordering
page_cmp a b = ordering_then (ordering_then (bytes_cmp a.flag b.flag) (nat_cmp a.site b.site)) (option_cmp bytes_cmp a.by b.by)

-- the same page
abbrev pub page_eq : PageName → PageName → Bool
page_eq a b = is_eq (page_cmp a b)

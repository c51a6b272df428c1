-- The tree that is written for an expression: arguments always in a list, each weight written out.
use Rattle.std.specs.Prelude.{ℕ, pos, List, codes, Option, Some, None, Result, Ok}
use Rattle.flag_text.specs.Printing.{text_of}
use Rattle.flag_text.specs.Shape as shape
use Rattle.flag_text.specs.Shape.{Shape, whole, text, object, Items, no_items, item, no_members, member}
use Rattle.logic_ast.specs.Expression.{Expression, literal, list, operation, fractional, Expressions, no_expressions, expression, By, no_by, by, Buckets, no_buckets, bucket, Bucket, literal_bucket, computed_bucket}
use Rattle.logic_ast.specs.Operator.{operator_name}
use Rattle.logic_ast.specs.Sites.{if_site, site_at}
use Rattle.logic_ast.specs.declared.fault.LogicFault.{LogicFault}

-- an operation on these arguments
abbrev pub applied : List ℕ → Items → Shape
applied name arguments = object (member name (shape.list arguments) no_members)

abbrev pub pair : Shape → Shape → Shape
pair name weight = shape.list (item name (item weight no_items))

abbrev mutual
  pub written : Expression → Shape
  written (literal t) = t
  written (list es) = shape.list (all_written es)
  written (operation o es) = applied (operator_name o) (all_written es)
  written (fractional n b bs) = applied (codes "fractional") (by_written b (buckets_written bs))

  pub all_written : Expressions → Items
  all_written no_expressions = no_items
  all_written (expression e es) = item (written e) (all_written es)

  -- the bucketing expression, where there is one, in front of the buckets
  pub by_written : By → Items → Items
  by_written no_by buckets = buckets
  by_written (by e) buckets = item (written e) buckets

  pub buckets_written : Buckets → Items
  buckets_written no_buckets = no_items
  buckets_written (bucket b bs) = item (bucket_written b) (buckets_written bs)

  pub bucket_written : Bucket → Shape
  bucket_written (literal_bucket name weight) = pair (text name) (whole (pos weight))
  bucket_written (computed_bucket name weight) = pair (written name) (written weight)

-- the compact text of the bucketing expression
abbrev pub by_text : By → Option (List ℕ)
by_text no_by = None
by_text (by e) = Some (text_of (written e))

-- the same of site n
abbrev pub by_text_at : ℕ → Expression → Result (Option (List ℕ)) LogicFault
by_text_at n e = if_site (site_at n e) (λ s. Ok (by_text s.bucketing))

-- The bucketing expression and the buckets of a site, in private contracts alone.
use denote.Ref.{Bor}
use Rattle.std.specs.Prelude.{Option, Box, Vec}
use Rattle.std.specs.declared.alloc.Global.{Global}
use Rattle.logic_ast.specs.Expression.{By, Buckets}
use Rattle.logic_ast.specs.Sites.{Site}
use Rattle.logic_ast.specs.View.{boxed_view, buckets_view}
use Rattle.logic_ast.specs.declared.node.Bucket.{Bucket as BucketOf}
use Rattle.logic_ast.specs.declared.node.Node.{Node}

-- of a site of the definition
abbrev pub site_parts : Site → By × Buckets
site_parts s = (s.bucketing, s.buckets)

-- of a node of the program
abbrev pub parts_view : Bor (Option (Box Node Global)) × Bor (Vec (BucketOf Node) Global) → By × Buckets
parts_view p = (boxed_view p.0.now, buckets_view p.1.now.items)

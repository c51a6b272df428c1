-- Sites that split users otherwise than is mostly meant (flagd: custom operations, fractional).
use Rattle.std.specs.Prelude.{ℕ, ◌-◌, ◌==◌, nat_le, Bool, true, false, not, ◌||◌, ◌&&◌, List, codes}
use Rattle.std.specs.Str.{bytes_eq}
use Rattle.flag_defs.specs.Definition.{Definition}
use Rattle.flag_defs.specs.Flag.{targeting_in}
use Rattle.flag_doubts.specs.Doubts.{passes}
use Rattle.flag_text.specs.Shape.{Shape, text}
use Rattle.logic_ast.specs.Expression.{Expression, literal, list, operation, fractional, Expressions, no_expressions, expression, By, no_by, by, Buckets, no_buckets, bucket, Bucket, literal_bucket, computed_bucket}
use Rattle.logic_ast.specs.declared.operator.Operator.{Operator}
use Rattle.logic_ast.specs.declared.operator.Operator.TheVariants.{Var, Missing, MissingSome}
use Rattle.flagops_checks.specs.declared.sites.SiteDoubt.{SiteDoubt}
use Rattle.flagops_checks.specs.declared.sites.SiteDoubt.TheVariants.{Total, Constant}
use Rattle.flagops_checks.specs.declared.sites.SiteDoubts.{SiteDoubts}

abbrev pub name_of : SiteDoubt → List ℕ
name_of Total = codes "Total"
name_of Constant = codes "Constant"

-- the buckets are literal, and their weights sum to so many
abbrev pub sum_to : ℕ → Buckets → Bool
sum_to total no_buckets = total == 0
sum_to total (bucket (literal_bucket name weight) bs) = nat_le weight total && sum_to (total - weight) bs
sum_to total (bucket (computed_bucket name weight) bs) = false

-- 100 makes each weight a percentage
abbrev pub are_nearly_hundred : Buckets → Bool
are_nearly_hundred bs = sum_to 99 bs || sum_to 101 bs

-- an operator that reads the context, or an item of a list
abbrev pub reads_scope : Operator → Bool
reads_scope Var = true
reads_scope Missing = true
reads_scope MissingSome = true
reads_scope o = false

-- `var` of the flag's key
abbrev pub is_key_text : Shape → Bool
is_key_text (text path) = bytes_eq path (codes "$flagd.flagKey")
is_key_text t = false

abbrev pub is_key_path : Expression → Bool
is_key_path (literal path) = is_key_text path
is_key_path e = false

abbrev pub are_key_path : Expressions → Bool
are_key_path no_expressions = false
are_key_path (expression path es) = is_key_path path

abbrev pub is_key_read : Operator → Expressions → Bool
is_key_read Var es = are_key_path es
is_key_read o es = false

-- it reads nothing of the context: a literal, the flag's key, or an operation on such
abbrev mutual
  pub is_constant : Expression → Bool
  is_constant (literal t) = true
  is_constant (list es) = are_constant es
  is_constant (operation o es) = is_key_read o es || (not (reads_scope o) && are_constant es)
  is_constant (fractional n b bs) = false

  pub are_constant : Expressions → Bool
  are_constant no_expressions = true
  are_constant (expression e es) = is_constant e && are_constant es

-- without a bucketing expression it is the flag's key and the targeting key, which is not the same for everybody
abbrev pub is_constant_by : By → Bool
is_constant_by no_by = false
is_constant_by (by e) = is_constant e

-- this is doubted of a site
abbrev pub is_doubted_site : SiteDoubt → By → Buckets → Bool
is_doubted_site Total b bs = are_nearly_hundred bs
is_doubted_site Constant b bs = is_constant_by b

-- and of one that stands in an expression
abbrev mutual
  pub has_site : SiteDoubt → Expression → Bool
  has_site d (literal t) = false
  has_site d (list es) = some_have d es
  has_site d (operation o es) = some_have d es
  has_site d (fractional n b bs) = is_doubted_site d b bs || (by_has d b || buckets_have d bs)

  pub some_have : SiteDoubt → Expressions → Bool
  some_have d no_expressions = false
  some_have d (expression e es) = has_site d e || some_have d es

  pub by_has : SiteDoubt → By → Bool
  by_has d no_by = false
  by_has d (by e) = has_site d e

  pub buckets_have : SiteDoubt → Buckets → Bool
  buckets_have d no_buckets = false
  buckets_have d (bucket b bs) = computed_has d b || buckets_have d bs

  pub computed_has : SiteDoubt → Bucket → Bool
  computed_has d (literal_bucket name weight) = false
  computed_has d (computed_bucket name weight) = has_site d name || has_site d weight

-- what is doubted of the sites of a flag; a broken flag has none
abbrev pub site_doubts : Definition → SiteDoubts
site_doubts d = record { total = passes (has_site Total) (targeting_in d); constant = passes (has_site Constant) (targeting_in d) }

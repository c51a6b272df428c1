-- The sites of an expression: its `fractional` operations, in preorder.
use Rattle.std.specs.Prelude.{ℕ, suc, ◌+◌, ◌-◌, ◌==◌, List, [], ◌∷◌, ◌++◌, slice_get, if◌then◌else◌, Option, Some, None, option_map, Result, Ok, Err}
use Rattle.bucket_core.specs.Rule.{Entries}
use Rattle.logic_ast.specs.Expression.{Expression, literal, list, operation, fractional, Expressions, no_expressions, expression, By, no_by, by, Buckets, no_buckets, bucket, Bucket, literal_bucket, computed_bucket}
use Rattle.logic_ast.specs.declared.fault.LogicFault.{LogicFault}
use Rattle.logic_ast.specs.declared.fault.LogicFault.TheVariants.{NoSite, Computed}

-- how many sites there are
abbrev mutual
  pub sites : Expression → ℕ
  sites (literal t) = 0
  sites (list es) = sites_in es
  sites (operation o es) = sites_in es
  sites (fractional n b bs) = suc (sites_in_by b + sites_in_buckets bs)

  pub sites_in : Expressions → ℕ
  sites_in no_expressions = 0
  sites_in (expression e es) = sites e + sites_in es

  pub sites_in_by : By → ℕ
  sites_in_by no_by = 0
  sites_in_by (by e) = sites e

  pub sites_in_buckets : Buckets → ℕ
  sites_in_buckets no_buckets = 0
  sites_in_buckets (bucket b bs) = sites_in_bucket b + sites_in_buckets bs

  pub sites_in_bucket : Bucket → ℕ
  sites_in_bucket (literal_bucket name weight) = 0
  sites_in_bucket (computed_bucket name weight) = sites name + sites weight

pub record Site : Type 0 where
  pub number : ℕ
  pub bucketing : By
  pub buckets : Buckets

-- the sites in preorder: a site stands before those inside it, and these in their order
abbrev mutual
  pub preorder : Expression → List Site
  preorder (literal t) = []
  preorder (list es) = preorder_in es
  preorder (operation o es) = preorder_in es
  preorder (fractional n b bs) = record { number = n; bucketing = b; buckets = bs } ∷ (preorder_in_by b ++ preorder_in_buckets bs)

  pub preorder_in : Expressions → List Site
  preorder_in no_expressions = []
  preorder_in (expression e es) = preorder e ++ preorder_in es

  pub preorder_in_by : By → List Site
  preorder_in_by no_by = []
  preorder_in_by (by e) = preorder e

  pub preorder_in_buckets : Buckets → List Site
  preorder_in_buckets no_buckets = []
  preorder_in_buckets (bucket b bs) = preorder_in_bucket b ++ preorder_in_buckets bs

  pub preorder_in_bucket : Bucket → List Site
  preorder_in_bucket (literal_bucket name weight) = []
  preorder_in_bucket (computed_bucket name weight) = preorder name ++ preorder weight

-- site n, from 0
abbrev pub site_at : ℕ → Expression → Option Site
site_at n e = slice_get (preorder e) n

-- the entries of buckets that are all literal
abbrev pub entries_of : Buckets → Option Entries
entries_of no_buckets = Some []
entries_of (bucket (literal_bucket name weight) bs) = option_map (λ es. (name, weight) ∷ es) (entries_of bs)
entries_of (bucket (computed_bucket name weight) bs) = None

abbrev pub literal_buckets : Entries → Buckets
literal_buckets [] = no_buckets
literal_buckets (e ∷ es) = bucket (literal_bucket e.0 e.1) (literal_buckets es)

-- each site's number less d: so the bucketing expression of site n is one of its own when d is n + 1
abbrev mutual
  pub lowered : ℕ → Expression → Expression
  lowered d (literal t) = literal t
  lowered d (list es) = list (all_lowered d es)
  lowered d (operation o es) = operation o (all_lowered d es)
  lowered d (fractional n b bs) = fractional (n - d) (by_lowered d b) (buckets_lowered d bs)

  pub all_lowered : ℕ → Expressions → Expressions
  all_lowered d no_expressions = no_expressions
  all_lowered d (expression e es) = expression (lowered d e) (all_lowered d es)

  pub by_lowered : ℕ → By → By
  by_lowered d no_by = no_by
  by_lowered d (by e) = by (lowered d e)

  pub buckets_lowered : ℕ → Buckets → Buckets
  buckets_lowered d no_buckets = no_buckets
  buckets_lowered d (bucket b bs) = bucket (bucket_lowered d b) (buckets_lowered d bs)

  pub bucket_lowered : ℕ → Bucket → Bucket
  bucket_lowered d (literal_bucket name weight) = literal_bucket name weight
  bucket_lowered d (computed_bucket name weight) = computed_bucket (lowered d name) (lowered d weight)

-- the site of number n has these entries in place of its buckets, and all else is as it was
abbrev mutual
  pub with_entries : ℕ → Entries → Expression → Expression
  with_entries n r (literal t) = literal t
  with_entries n r (list es) = list (all_with_entries n r es)
  with_entries n r (operation o es) = operation o (all_with_entries n r es)
  with_entries n r (fractional m b bs) =
      if m == n then fractional m b (literal_buckets r) else fractional m (by_with_entries n r b) (buckets_with_entries n r bs)

  pub all_with_entries : ℕ → Entries → Expressions → Expressions
  all_with_entries n r no_expressions = no_expressions
  all_with_entries n r (expression e es) = expression (with_entries n r e) (all_with_entries n r es)

  pub by_with_entries : ℕ → Entries → By → By
  by_with_entries n r no_by = no_by
  by_with_entries n r (by e) = by (with_entries n r e)

  pub buckets_with_entries : ℕ → Entries → Buckets → Buckets
  buckets_with_entries n r no_buckets = no_buckets
  buckets_with_entries n r (bucket b bs) = bucket (bucket_with_entries n r b) (buckets_with_entries n r bs)

  pub bucket_with_entries : ℕ → Entries → Bucket → Bucket
  bucket_with_entries n r (literal_bucket name weight) = literal_bucket name weight
  bucket_with_entries n r (computed_bucket name weight) = computed_bucket (with_entries n r name) (with_entries n r weight)

abbrev pub if_site : {A : Type 0} → Option Site → (Site → Result A LogicFault) → Result A LogicFault
if_site None f = Err NoSite
if_site (Some s) f = f s

abbrev pub if_entries : {A : Type 0} → Option Entries → (Entries → A) → Result A LogicFault
if_entries None f = Err Computed
if_entries (Some r) f = Ok (f r)

-- the entries of site n, where all its buckets are literal
abbrev pub entries_at : ℕ → Expression → Result Entries LogicFault
entries_at n e = if_site (site_at n e) (λ s. if_entries (entries_of s.buckets) (λ r. r))

-- the bucketing expression of site n, as an expression of its own, and the entries
abbrev pub parts_at : ℕ → Expression → Result (By × Entries) LogicFault
parts_at n e = if_site (site_at n e) (λ s. if_entries (entries_of s.buckets) (λ r. (by_lowered (suc n) s.bucketing, r)))

-- the expression with these entries at site n
abbrev pub replaced : ℕ → Entries → Expression → Result Expression LogicFault
replaced n r e = if_site (site_at n e) (λ s. if_entries (entries_of s.buckets) (λ _. with_entries n r e))

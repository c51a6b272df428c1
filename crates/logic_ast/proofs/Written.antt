-- What is written for an expression reads as it, with nothing wrong.
use Rattle.std.proofs.Common.{◌≡◌, ℕ, suc, ◌+◌, ◌^◌, Bool, true, false, not, ◌&&◌, ◌==◌, nat_lt, Option, Some, None, refl, ap, ◌∙◌, arith}
use Rattle.std.proofs.lemmas.Grind.{common_steps}
use Rattle.std.specs.Option.{is_some}
use Rattle.bucket_core.specs.Reading.{bucket_with, weight_of}
use Rattle.flag_text.specs.Shape as shape
use Rattle.flag_text.specs.Shape.{Shape, null, boolean, whole, other, text, object, Items, no_items, item, Members, no_members, member, is_whole}
use Rattle.logic_ast.specs.Expression.{Expression, literal, list, operation, fractional, Expressions, no_expressions, expression, no_by, by, Buckets, no_buckets, bucket, literal_bucket, computed_bucket}
use Rattle.logic_ast.specs.FirstFault.{is_list_tree, item_count, are_buckets, are_site_arguments, expression_fault, expressions_fault, site_fault, by_fault, buckets_fault}
use Rattle.logic_ast.specs.Formed.{is_literal, is_list, expression_count, are_literals, is_formed, are_formed, buckets_are_formed, bucket_is_formed}
use Rattle.logic_ast.specs.Operator.{takes}
use Rattle.logic_ast.specs.Reading.{expression_from, expressions_from, arguments_from, site_from, by_from, buckets_from}
use Rattle.logic_ast.specs.Sites.{sites}
use Rattle.logic_ast.specs.Writing.{written, all_written, buckets_written}
use Rattle.logic_ast.proofs.Operators.{operator_of-operator_name, is_fractional-operator_name, is_fractional-fractional}

pub left : (a b : Bool) → (a && b) ≡ true → a ≡ true
left true b h = refl
left false b h = h

pub right : (a b : Bool) → (a && b) ≡ true → b ≡ true
right true b h = h
right false b h = cc

pub both : (a b : Bool) → a ≡ true → b ≡ true → (a && b) ≡ true
both a b p q = rw (p, q) refl

pub not-true : (a : Bool) → not a ≡ true → a ≡ false
not-true true h = cc
not-true false h = refl

pub literal-from : (k : ℕ) (t : Shape) → is_literal t ≡ true → expression_from k t ≡ literal t
literal-from k null h = refl
literal-from k (boolean b) h = refl
literal-from k (whole n) h = refl
literal-from k other h = refl
literal-from k (text s) h = refl
literal-from k (shape.list ts) h = cc
literal-from k (object no_members) h = refl
literal-from k (object (member name t no_members)) h = cc
literal-from k (object (member name t (member l u ms))) h = refl

literal-fault : (t : Shape) → is_literal t ≡ true → expression_fault t ≡ None
literal-fault null h = refl
literal-fault (boolean b) h = refl
literal-fault (whole n) h = refl
literal-fault other h = refl
literal-fault (text s) h = refl
literal-fault (shape.list ts) h = cc
literal-fault (object no_members) h = refl
literal-fault (object (member name t no_members)) h = cc
literal-fault (object (member name t (member l u ms))) h = refl

pub by_from-other : (k : ℕ) (t : Shape) (ts : Items) → is_list_tree t ≡ false → by_from k (item t ts) ≡ by (expression_from k t)
by_from-other k null ts h = refl
by_from-other k (boolean b) ts h = refl
by_from-other k (whole n) ts h = refl
by_from-other k other ts h = refl
by_from-other k (text s) ts h = refl
by_from-other k (shape.list ps) ts h = cc
by_from-other k (object ms) ts h = refl

pub arguments_from-other : (k : ℕ) (t : Shape) → is_list_tree t ≡ false → arguments_from k t ≡ expression (expression_from k t) no_expressions
arguments_from-other k null h = refl
arguments_from-other k (boolean b) h = refl
arguments_from-other k (whole n) h = refl
arguments_from-other k other h = refl
arguments_from-other k (text s) h = refl
arguments_from-other k (shape.list ps) h = cc
arguments_from-other k (object ms) h = refl

pub site_from-other : (k : ℕ) (t : Shape) → is_list_tree t ≡ false → site_from k t ≡ fractional k (by (expression_from (suc k) t)) no_buckets
site_from-other k null h = refl
site_from-other k (boolean b) h = refl
site_from-other k (whole n) h = refl
site_from-other k other h = refl
site_from-other k (text s) h = refl
site_from-other k (shape.list ps) h = cc
site_from-other k (object ms) h = refl

pub buckets_from-other : (k : ℕ) (t : Shape) (ts : Items) → is_list_tree t ≡ false → buckets_from k (item t ts) ≡ buckets_from k ts
buckets_from-other k null ts h = refl
buckets_from-other k (boolean b) ts h = refl
buckets_from-other k (whole n) ts h = refl
buckets_from-other k other ts h = refl
buckets_from-other k (text s) ts h = refl
buckets_from-other k (shape.list ps) ts h = cc
buckets_from-other k (object ms) ts h = refl

pub by_fault-other : (t : Shape) (ts : Items) → is_list_tree t ≡ false → by_fault (item t ts) ≡ expression_fault t
by_fault-other null ts h = refl
by_fault-other (boolean b) ts h = refl
by_fault-other (whole n) ts h = refl
by_fault-other other ts h = refl
by_fault-other (text s) ts h = refl
by_fault-other (shape.list ps) ts h = cc
by_fault-other (object ms) ts h = refl

pub buckets_fault-other : (t : Shape) (ts : Items) → is_list_tree t ≡ false → buckets_fault (item t ts) ≡ buckets_fault ts
buckets_fault-other null ts h = refl
buckets_fault-other (boolean b) ts h = refl
buckets_fault-other (whole n) ts h = refl
buckets_fault-other other ts h = refl
buckets_fault-other (text s) ts h = refl
buckets_fault-other (shape.list ps) ts h = cc
buckets_fault-other (object ms) ts h = refl

are_site_arguments-other : (t : Shape) (ts : Items) → is_list_tree t ≡ false → are_site_arguments (item t ts) ≡ are_buckets ts
are_site_arguments-other null ts h = refl
are_site_arguments-other (boolean b) ts h = refl
are_site_arguments-other (whole n) ts h = refl
are_site_arguments-other other ts h = refl
are_site_arguments-other (text s) ts h = refl
are_site_arguments-other (shape.list ps) ts h = cc
are_site_arguments-other (object ms) ts h = refl

literal-no_list : (t : Shape) → is_literal t ≡ true → is_list_tree t ≡ false
literal-no_list null h = refl
literal-no_list (boolean b) h = refl
literal-no_list (whole n) h = refl
literal-no_list other h = refl
literal-no_list (text s) h = refl
literal-no_list (shape.list ts) h = cc
literal-no_list (object ms) h = refl

-- an expression that is no list is not written as one
pub written-no_list : (k : ℕ) (e : Expression) → not (is_list e) ≡ true → is_formed k e ≡ true → is_list_tree (written e) ≡ false
written-no_list k (literal t) n h = literal-no_list t (left (is_literal t) _ h)
written-no_list k (list es) n h = cc
written-no_list k (operation o es) n h = refl
written-no_list k (fractional m b bs) n h = refl

by_from-buckets : (k : ℕ) (bs : Buckets) → by_from k (buckets_written bs) ≡ no_by
by_from-buckets k no_buckets = refl
by_from-buckets k (bucket (literal_bucket name weight) bs) = refl
by_from-buckets k (bucket (computed_bucket name weight) bs) = refl

by_fault-buckets : (bs : Buckets) → by_fault (buckets_written bs) ≡ None
by_fault-buckets no_buckets = refl
by_fault-buckets (bucket (literal_bucket name weight) bs) = refl
by_fault-buckets (bucket (computed_bucket name weight) bs) = refl

are_buckets-written : (bs : Buckets) → are_buckets (buckets_written bs) ≡ true
are_buckets-written no_buckets = refl
are_buckets-written (bucket (literal_bucket name weight) bs) = are_buckets-written bs
are_buckets-written (bucket (computed_bucket name weight) bs) = are_buckets-written bs

are_site_arguments-written : (bs : Buckets) → are_site_arguments (buckets_written bs) ≡ true
are_site_arguments-written no_buckets = refl
are_site_arguments-written (bucket (literal_bucket name weight) bs) = are_buckets-written bs
are_site_arguments-written (bucket (computed_bucket name weight) bs) = are_buckets-written bs

none-some : {A : Type 0} (o : Option A) → is_some o ≡ false → o ≡ None
none-some None h = refl
none-some (Some a) h = cc

pub no_weight : (s : Shape) → bucket_with None s ≡ None
no_weight null = refl
no_weight (boolean b) = refl
no_weight (whole n) = refl
no_weight other = refl
no_weight (text s) = refl
no_weight (shape.list ts) = refl
no_weight (object ms) = refl

-- a computed bucket is not written as a literal one
pub entry_of-computed : (name weight : Expression) → are_literals name weight ≡ false → bucket_with (weight_of (written weight)) (written name) ≡ None
entry_of-computed (literal t) (literal u) h = none-some _ h
entry_of-computed (literal t) (list es) h = no_weight t
entry_of-computed (literal t) (operation o es) h = no_weight t
entry_of-computed (literal t) (fractional n b bs) h = no_weight t
entry_of-computed (list es) weight h = refl
entry_of-computed (operation o es) weight h = refl
entry_of-computed (fractional n b bs) weight h = refl

item_count-written : (es : Expressions) → item_count (all_written es) ≡ expression_count es
item_count-written no_expressions = refl
item_count-written (expression e es) = ap suc (item_count-written es)

same_number : (m n : ℕ) → (m == n) ≡ true → m ≡ n
same_number m n h = grind (arith, common_steps, h)

mutual
  pub expression_from-written : (k : ℕ) (e : Expression) → is_formed k e ≡ true → expression_from k (written e) ≡ e
  expression_from-written k (literal t) h = literal-from k t (left (is_literal t) _ h)
  expression_from-written k (list es) h = ap list (expressions_from-written k es h)
  expression_from-written k (operation o es) h =
      rw (is_fractional-operator_name o, operator_of-operator_name o) (ap (operation o) (expressions_from-written k es (right (takes o (expression_count es)) _ h)))
  expression_from-written k (fractional n no_by bs) h =
      let rest = right (n == k) _ h in
      rw (is_fractional-fractional, by_from-buckets (suc k) bs, same_number n k (left (n == k) _ h))
      (ap (fractional k no_by) (buckets_from-written (suc k + 0) bs rest))
  expression_from-written k (fractional n (by e) bs) h =
      let rest = right (n == k) _ h in
      let formed = left (not (is_list e) && is_formed (suc k) e) _ rest in
      let e-formed = right (not (is_list e)) _ formed in
      let no = written-no_list (suc k) e (left (not (is_list e)) _ formed) e-formed in
      let again = expression_from-written (suc k) e e-formed in
      rw (is_fractional-fractional, by_from-other (suc k) (written e) (buckets_written bs) no, again, buckets_from-other (suc k + sites e) (written e) (buckets_written bs) no, same_number n k (left (n == k) _ h))
      (ap (fractional k (by e)) (buckets_from-written (suc k + sites e) bs (right (not (is_list e) && is_formed (suc k) e) _ rest)))

  pub expressions_from-written : (k : ℕ) (es : Expressions) → are_formed k es ≡ true → expressions_from k (all_written es) ≡ es
  expressions_from-written k no_expressions h = refl
  expressions_from-written k (expression e es) h =
      rw (expression_from-written k e (left (is_formed k e) _ h)) (ap (expression e) (expressions_from-written (k + sites e) es (right (is_formed k e) _ h)))

  buckets_from-written : (k : ℕ) (bs : Buckets) → buckets_are_formed k bs ≡ true → buckets_from k (buckets_written bs) ≡ bs
  buckets_from-written k no_buckets h = refl
  buckets_from-written k (bucket (literal_bucket name weight) bs) h =
      rw (left (nat_lt weight (2 ^ 31)) _ h) (ap (bucket (literal_bucket name weight)) (buckets_from-written (k + 0) bs (right (nat_lt weight (2 ^ 31)) _ h)))
  buckets_from-written k (bucket (computed_bucket name weight) bs) h =
      let here = left (bucket_is_formed k (computed_bucket name weight)) _ h in
      let parts = right (not (are_literals name weight)) _ here in
      rw (entry_of-computed name weight (not-true _ (left (not (are_literals name weight)) _ here)), expression_from-written k name (left (is_formed k name) _ parts), expression_from-written (k + sites name) weight (right (is_formed k name) _ parts))
      (ap (bucket (computed_bucket name weight)) (buckets_from-written (k + (sites name + sites weight)) bs (right (bucket_is_formed k (computed_bucket name weight)) _ h)))

site-none : (ts : Items) → are_site_arguments ts ≡ true → by_fault ts ≡ None → buckets_fault ts ≡ None → site_fault (shape.list ts) ≡ None
site-none ts g f h = rw (g, f, h) refl

mutual
  pub expression_fault-written : (k : ℕ) (e : Expression) → is_formed k e ≡ true → expression_fault (written e) ≡ None
  expression_fault-written k (literal t) h = literal-fault t (left (is_literal t) _ h)
  expression_fault-written k (list es) h = expressions_fault-written k es h
  expression_fault-written k (operation o es) h =
      rw (is_fractional-operator_name o, operator_of-operator_name o, item_count-written es, left (takes o (expression_count es)) _ h) (expressions_fault-written k es (right (takes o (expression_count es)) _ h))
  expression_fault-written k (fractional n no_by bs) h =
      rw is_fractional-fractional (site-none (buckets_written bs) (are_site_arguments-written bs) (by_fault-buckets bs) (buckets_fault-written (suc k + 0) bs (right (n == k) _ h)))
  expression_fault-written k (fractional n (by e) bs) h =
      let rest = right (n == k) _ h in
      let formed = left (not (is_list e) && is_formed (suc k) e) _ rest in
      let e-formed = right (not (is_list e)) _ formed in
      let no = written-no_list (suc k) e (left (not (is_list e)) _ formed) e-formed in
      rw is_fractional-fractional
      (site-none (item (written e) (buckets_written bs)) (are_site_arguments-other (written e) (buckets_written bs) no ∙ are_buckets-written bs)
      (by_fault-other (written e) (buckets_written bs) no ∙ expression_fault-written (suc k) e e-formed)
      (buckets_fault-other (written e) (buckets_written bs) no ∙ buckets_fault-written (suc k + sites e) bs (right (not (is_list e) && is_formed (suc k) e) _ rest)))

  expressions_fault-written : (k : ℕ) (es : Expressions) → are_formed k es ≡ true → expressions_fault (all_written es) ≡ None
  expressions_fault-written k no_expressions h = refl
  expressions_fault-written k (expression e es) h =
      rw (expression_fault-written k e (left (is_formed k e) _ h)) (expressions_fault-written (k + sites e) es (right (is_formed k e) _ h))

  buckets_fault-written : (k : ℕ) (bs : Buckets) → buckets_are_formed k bs ≡ true → buckets_fault (buckets_written bs) ≡ None
  buckets_fault-written k no_buckets h = refl
  buckets_fault-written k (bucket (literal_bucket name weight) bs) h = buckets_fault-written (k + 0) bs (right (nat_lt weight (2 ^ 31)) _ h)
  buckets_fault-written k (bucket (computed_bucket name weight) bs) h =
      let here = left (bucket_is_formed k (computed_bucket name weight)) _ h in
      let parts = right (not (are_literals name weight)) _ here in
      rw (expression_fault-written k name (left (is_formed k name) _ parts), expression_fault-written (k + sites name) weight (right (is_formed k name) _ parts))
      (buckets_fault-written (k + (sites name + sites weight)) bs (right (bucket_is_formed k (computed_bucket name weight)) _ h))

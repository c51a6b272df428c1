-- What is wrong with an operation itself comes first, and then what is wrong with its arguments, a site's too.
use Rattle.std.proofs.Common.{◌≡◌, ℕ, suc, ◌+◌, ◌==◌, List, Bool, true, false, cond, Option, Some, None, is_none, option_map, ◌&&◌, refl, sym, ap, ap₂, ◌∙◌, add-one, arith}
use Rattle.flag_text.specs.Shape.{Shape, null, boolean, whole, other, text, list, object, Items, no_items, item, no_members, member}
use Rattle.logic_ast.specs.FirstFault.{argument_count, is_bucket, are_buckets, are_site_arguments, first, operator_fault, expression_fault, object_fault, expressions_fault, arguments_fault, site_fault, by_fault, buckets_fault, bucket_fault}
use Rattle.logic_ast.specs.Misuse.{first_no_bucket, no_bucket_in, operator_misuse, misuse_of, fault_of}
use Rattle.logic_ast.specs.Operator.{operator_of, takes, is_fractional}
use Rattle.logic_ast.specs.declared.fault.LogicFault.{LogicFault}
use Rattle.logic_ast.specs.declared.fault.LogicFault.TheVariants.{BadArguments}
use Rattle.logic_ast.specs.declared.misuse.Misuse.{Misuse}
use Rattle.logic_ast.specs.declared.misuse.Misuse.TheVariants as misuse
use Rattle.logic_ast.specs.declared.operator.Operator.{Operator}
use Rattle.logic_ast.proofs.Written.{left, right}

first-none : (o : Option LogicFault) → first o None ≡ o
first-none None = refl
first-none (Some f) = refl

first-first : (a b c : Option LogicFault) → first (first a b) c ≡ first a (first b c)
first-first None b c = refl
first-first (Some f) b c = refl

-- where an argument stands without its list, it is read as it is anywhere
arguments-expression : (t : Shape) → arguments_fault t ≡ expression_fault t
arguments-expression null = refl
arguments-expression (boolean b) = refl
arguments-expression (whole n) = refl
arguments-expression other = refl
arguments-expression (text s) = refl
arguments-expression (list ts) = refl
arguments-expression (object ms) = refl

-- a bucket as an expression: a list of its parts
bucket-expression : (ps : Items) → is_bucket (list ps) ≡ true → bucket_fault ps ≡ expressions_fault ps
bucket-expression no_items h = refl
bucket-expression (item name no_items) h = sym (first-none (expression_fault name))
bucket-expression (item name (item weight no_items)) h = ap (first (expression_fault name)) (sym (first-none (expression_fault weight)))
bucket-expression (item name (item weight (item t ts))) h = cc

not-first : (n : ℕ) → (suc n == 0) ≡ false
not-first n = grind arith

other-later : (n : ℕ) (ts : Items) → is_none (cond (suc n == 0) (first_no_bucket (suc n + 1) ts) (Some (suc n))) ≡ false
other-later n ts = ap (λ b. is_none (cond b (first_no_bucket (suc n + 1) ts) (Some (suc n)))) (not-first n)

list-later : (b : Bool) (n : ℕ) (ts : Items) → is_none (first_no_bucket (suc (suc n)) ts) ≡ are_buckets ts
    → is_none (cond b (first_no_bucket (suc n + 1) ts) (Some (suc n))) ≡ b && are_buckets ts
list-later true n ts h = ap (λ k. is_none (first_no_bucket k ts)) (add-one (suc n)) ∙ h
list-later false n ts h = refl

list-first : (b : Bool) (ts : Items) → is_none (first_no_bucket 1 ts) ≡ are_buckets ts
    → is_none (cond b (first_no_bucket (0 + 1) ts) (Some 0)) ≡ b && are_buckets ts
list-first true ts h = h
list-first false ts h = refl

by-count : (b : Bool) (n : ℕ) (x : Option LogicFault) → first (cond b None (Some BadArguments)) x ≡ first (option_map fault_of (cond b None (Some (misuse.Arguments n)))) x
by-count true n x = refl
by-count false n x = refl

-- behind the first argument each is to be a bucket
no_bucket-later : (n : ℕ) (ts : Items) → is_none (first_no_bucket (suc n) ts) ≡ are_buckets ts
no_bucket-later n no_items = refl
no_bucket-later n (item null ts) = other-later n ts
no_bucket-later n (item (boolean b) ts) = other-later n ts
no_bucket-later n (item (whole x) ts) = other-later n ts
no_bucket-later n (item other ts) = other-later n ts
no_bucket-later n (item (text s) ts) = other-later n ts
no_bucket-later n (item (object ms) ts) = other-later n ts
no_bucket-later n (item (list ps) ts) = list-later (is_bucket (list ps)) n ts (no_bucket-later (suc n) ts)

no_bucket-first : (ts : Items) → is_none (first_no_bucket 0 ts) ≡ are_site_arguments ts
no_bucket-first no_items = refl
no_bucket-first (item null ts) = no_bucket-later 0 ts
no_bucket-first (item (boolean b) ts) = no_bucket-later 0 ts
no_bucket-first (item (whole x) ts) = no_bucket-later 0 ts
no_bucket-first (item other ts) = no_bucket-later 0 ts
no_bucket-first (item (text s) ts) = no_bucket-later 0 ts
no_bucket-first (item (object ms) ts) = no_bucket-later 0 ts
no_bucket-first (item (list ps) ts) = list-first (is_bucket (list ps)) ts (no_bucket-later 0 ts)

-- buckets as the items of a list
buckets-expressions : (ts : Items) → are_buckets ts ≡ true → buckets_fault ts ≡ expressions_fault ts
buckets-expressions no_items h = refl
buckets-expressions (item null ts) h = cc
buckets-expressions (item (boolean b) ts) h = cc
buckets-expressions (item (whole x) ts) h = cc
buckets-expressions (item other ts) h = cc
buckets-expressions (item (text s) ts) h = cc
buckets-expressions (item (object ms) ts) h = cc
buckets-expressions (item (list ps) ts) h =
    ap₂ first (bucket-expression ps (left (is_bucket (list ps)) (are_buckets ts) h)) (buckets-expressions ts (right (is_bucket (list ps)) (are_buckets ts) h))

site-expressions : (ts : Items) → are_site_arguments ts ≡ true → first (by_fault ts) (buckets_fault ts) ≡ expressions_fault ts
site-expressions no_items h = refl
site-expressions (item null ts) h = buckets-expressions ts h
site-expressions (item (boolean b) ts) h = buckets-expressions ts h
site-expressions (item (whole x) ts) h = buckets-expressions ts h
site-expressions (item other ts) h = buckets-expressions ts h
site-expressions (item (text s) ts) h = buckets-expressions ts h
site-expressions (item (object ms) ts) h = ap (first (object_fault ms)) (buckets-expressions ts h)
site-expressions (item (list ps) ts) h = buckets-expressions (item (list ps) ts) h

shape-first : (o : Option ℕ) (b : Bool) (x y : Option LogicFault) → is_none o ≡ b → (b ≡ true → x ≡ y)
    → cond b x (Some BadArguments) ≡ first (option_map fault_of (option_map misuse.Bucket o)) y
shape-first None true x y n e = e refl
shape-first None false x y n e = cc
shape-first (Some p) true x y n e = cc
shape-first (Some p) false x y n e = refl

site-misuse : (t : Shape) → site_fault t ≡ first (option_map fault_of (option_map misuse.Bucket (no_bucket_in t))) (expression_fault t)
site-misuse null = refl
site-misuse (boolean b) = refl
site-misuse (whole n) = refl
site-misuse other = refl
site-misuse (text s) = refl
site-misuse (object ms) = refl
site-misuse (list ts) =
    shape-first (first_no_bucket 0 ts) (are_site_arguments ts) (first (by_fault ts) (buckets_fault ts)) (expressions_fault ts) (no_bucket-first ts) (site-expressions ts)

operator-misuse : (o : Option Operator) (n : ℕ) (x : Option LogicFault) → first (operator_fault o n) x ≡ first (option_map fault_of (operator_misuse o n)) x
operator-misuse None n x = refl
operator-misuse (Some o) n x = by-count (takes o n) n x

either : (b : Bool) (o : Option Operator) (t : Shape)
    → cond b (site_fault t) (first (operator_fault o (argument_count t)) (arguments_fault t))
    ≡ first (option_map fault_of (cond b (option_map misuse.Bucket (no_bucket_in t)) (operator_misuse o (argument_count t)))) (expression_fault t)
either true o t = site-misuse t
either false o t = ap (first (operator_fault o (argument_count t))) (arguments-expression t) ∙ operator-misuse o (argument_count t) (expression_fault t)

pub operation-misuse : (name : List ℕ) (t : Shape) → expression_fault (object (member name t no_members)) ≡ first (option_map fault_of (misuse_of name t)) (expression_fault t)
operation-misuse name t = either (is_fractional name) (operator_of name) t

-- by what is wrong with the operation itself, and where nothing is
pub operation-some : (name : List ℕ) (t : Shape) (m : Misuse) → misuse_of name t ≡ Some m → Some (fault_of m) ≡ expression_fault (object (member name t no_members))
operation-some name t m h = sym (operation-misuse name t ∙ ap (λ o. first (option_map fault_of o) (expression_fault t)) h)

pub operation-none : (name : List ℕ) (t : Shape) → misuse_of name t ≡ None → expression_fault t ≡ expression_fault (object (member name t no_members))
operation-none name t h = sym (operation-misuse name t ∙ ap (λ o. first (option_map fault_of o) (expression_fault t)) h)

-- What is read of a tree in which nothing is wrong is formed.
use Rattle.std.proofs.Common.{◌≡◌, ℕ, suc, ◌+◌, ◌^◌, pos, negsuc, List, Bool, true, false, not, ◌&&◌, ◌==◌, nat_lt, cond, Option, Some, None, refl, ap, ◌∙◌, arith}
use Rattle.std.proofs.lemmas.Grind.{common_steps}
use Rattle.std.specs.Option.{is_some, IfSome}
use Rattle.flag_text.specs.Readers.{as_text}
use Rattle.bucket_core.specs.Reading.{bucket_from as entry_of, bucket_with, weight_of}
use Rattle.flag_text.specs.Shape as shape
use Rattle.flag_text.specs.Shape.{Shape, null, boolean, whole, other, text, object, Items, no_items, item, Members, no_members, member, comes_first, is_whole, items_are_whole, members_are_whole}
use Rattle.logic_ast.specs.Expression.{Expression, literal, list, operation, fractional, Expressions, Bucket}
use Rattle.logic_ast.specs.FirstFault.{item_count, argument_count, are_buckets, are_site_arguments, first, operator_fault, expression_fault, object_fault, expressions_fault, arguments_fault, site_fault, by_fault, buckets_fault}
use Rattle.logic_ast.specs.Formed.{is_list, expression_count, are_literals, is_formed, are_formed, by_is_formed, buckets_are_formed, bucket_is_formed}
use Rattle.logic_ast.specs.Operator.{operator_of, takes, is_fractional}
use Rattle.logic_ast.specs.Reading.{expression_from, object_from, expressions_from, arguments_from, site_from, by_from, buckets_from, bucket_from, operation_of, or_computed}
use Rattle.logic_ast.specs.Sites.{sites, sites_in_by, sites_in_bucket}
use Rattle.logic_ast.specs.declared.fault.LogicFault.{LogicFault}
use Rattle.logic_ast.specs.declared.fault.LogicFault.TheVariants.{BadArguments}
use Rattle.logic_ast.specs.declared.operator.Operator.{Operator}
use Rattle.logic_ast.proofs.Written.{left, right, both, no_weight}

-- neither of two is wrong
pub first-left : (f g : Option LogicFault) → first f g ≡ None → f ≡ None
first-left None g h = refl
first-left (Some f) g h = cc

pub first-right : (f g : Option LogicFault) → first f g ≡ None → g ≡ None
first-right None g h = h
first-right (Some f) g h = cc

-- an equation between numbers is a test that holds
same : (n : ℕ) → (n == n) ≡ true
same n = grind (arith, common_steps)

item_count-from : (k : ℕ) (ts : Items) → expression_count (expressions_from k ts) ≡ item_count ts
item_count-from k no_items = refl
item_count-from k (item t ts) = ap suc (item_count-from (k + sites (expression_from k t)) ts)

argument_count-from : (k : ℕ) (t : Shape) → expression_count (arguments_from k t) ≡ argument_count t
argument_count-from k null = refl
argument_count-from k (boolean b) = refl
argument_count-from k (whole n) = refl
argument_count-from k other = refl
argument_count-from k (text s) = refl
argument_count-from k (shape.list ts) = item_count-from k ts
argument_count-from k (object ms) = refl

taken-at : (b : Bool) → cond {A = Option LogicFault} b None (Some BadArguments) ≡ None → b ≡ true
taken-at true h = refl
taken-at false h = cc

operation-formed : (o : Option Operator) (n k : ℕ) (es : Expressions) (f : Option LogicFault) → first (operator_fault o n) f ≡ None → expression_count es ≡ n → are_formed k es ≡ true
    → is_formed k (operation_of o es) ≡ true
operation-formed None n k es f h e formed = cc
operation-formed (Some p) n k es f h e formed = both (takes p (expression_count es)) _ (rw e (taken-at (takes p n) (first-left _ f h))) formed

pick-formed : (b : Bool) (f g : Option LogicFault) (s a : Expression) (k : ℕ) → cond b f g ≡ None → (f ≡ None → is_formed k s ≡ true) → (g ≡ None → is_formed k a ≡ true) → is_formed k (cond b s a) ≡ true
pick-formed true f g s a k h p q = p h
pick-formed false f g s a k h p q = q h

pub chosen-left : (b : Bool) (f : Option LogicFault) → cond b f (Some BadArguments) ≡ None → b ≡ true
chosen-left true f h = refl
chosen-left false f h = cc

pub chosen-right : (b : Bool) (f : Option LogicFault) → cond b f (Some BadArguments) ≡ None → f ≡ None
chosen-right true f h = h
chosen-right false f h = cc

-- ---- which buckets are literal

in_range-at : (b : Bool) (n : ℕ) → nat_lt n (2 ^ 31) ≡ b → IfSome (cond b (Some n) None) (λ m. nat_lt m (2 ^ 31) ≡ true)
in_range-at true n e = e
in_range-at false n e = tt

pub weight-small : (t : Shape) → IfSome (weight_of t) (λ m. nat_lt m (2 ^ 31) ≡ true)
weight-small null = tt
weight-small (boolean b) = tt
weight-small (whole (pos n)) = in_range-at (nat_lt n (2 ^ 31)) n refl
weight-small (whole (negsuc n)) = tt
weight-small other = tt
weight-small (text s) = tt
weight-small (shape.list ts) = tt
weight-small (object ms) = tt

pub with-small : (w : Option ℕ) (t : Shape) → IfSome w (λ m. nat_lt m (2 ^ 31) ≡ true) → IfSome (bucket_with w t) (λ p. nat_lt p.1 (2 ^ 31) ≡ true)
with-small w null h = tt
with-small w (boolean b) h = tt
with-small w (whole n) h = tt
with-small w other h = tt
with-small None (text s) h = tt
with-small (Some n) (text s) h = h
with-small w (shape.list ts) h = tt
with-small w (object ms) h = tt

bucket-at : (o : Option (List ℕ × ℕ)) (b : Bucket) (k : ℕ) → IfSome o (λ p. nat_lt p.1 (2 ^ 31) ≡ true) → (o ≡ None → bucket_is_formed k b ≡ true) → bucket_is_formed k (or_computed o b) ≡ true
bucket-at None b k h q = q refl
bucket-at (Some p) b k h q = h

left-other : (t : Shape) → as_text t ≡ None → (e : Expression) → are_literals (literal t) e ≡ false
left-other t h (literal u) = rw h refl
left-other t h (list es) = refl
left-other t h (operation o es) = refl
left-other t h (fractional n b bs) = refl

right-other : (t u : Shape) → weight_of u ≡ None → are_literals (literal t) (literal u) ≡ false
right-other t u h = ap is_some (ap (λ w. bucket_with w t) h ∙ no_weight t)

site-left : (k : ℕ) (t : Shape) (e : Expression) → are_literals (site_from k t) e ≡ false
site-left k null e = refl
site-left k (boolean b) e = refl
site-left k (whole n) e = refl
site-left k other e = refl
site-left k (text s) e = refl
site-left k (shape.list ts) e = refl
site-left k (object ms) e = refl

site-right : (t : Shape) (k : ℕ) (u : Shape) → are_literals (literal t) (site_from k u) ≡ false
site-right t k null = refl
site-right t k (boolean b) = refl
site-right t k (whole n) = refl
site-right t k other = refl
site-right t k (text s) = refl
site-right t k (shape.list ts) = refl
site-right t k (object ms) = refl

operation-left : (o : Option Operator) (es : Expressions) (e : Expression) → are_literals (operation_of o es) e ≡ false
operation-left None es e = left-other null refl e
operation-left (Some o) es e = refl

operation-right : (t : Shape) (o : Option Operator) (es : Expressions) → are_literals (literal t) (operation_of o es) ≡ false
operation-right t None es = right-other t null refl
operation-right t (Some o) es = refl

pick-left : (b : Bool) (s a e : Expression) → are_literals s e ≡ false → are_literals a e ≡ false → are_literals (cond b s a) e ≡ false
pick-left true s a e p q = p
pick-left false s a e p q = q

pick-right : (b : Bool) (t : Shape) (s a : Expression) → are_literals (literal t) s ≡ false → are_literals (literal t) a ≡ false → are_literals (literal t) (cond b s a) ≡ false
pick-right true t s a p q = p
pick-right false t s a p q = q

object-left : (k : ℕ) (ms : Members) (e : Expression) → are_literals (object_from k ms) e ≡ false
object-left k no_members e = left-other (object no_members) refl e
object-left k (member name t no_members) e = pick-left (is_fractional name) _ _ e (site-left k t e) (operation-left (operator_of name) _ e)
object-left k (member name t (member l u ms)) e = left-other (object (member name t (member l u ms))) refl e

object-right : (t : Shape) (k : ℕ) (ms : Members) → are_literals (literal t) (object_from k ms) ≡ false
object-right t k no_members = right-other t (object no_members) refl
object-right t k (member name u no_members) = pick-right (is_fractional name) t _ _ (site-right t k u) (operation-right t (operator_of name) _)
object-right t k (member name u (member l v ms)) = right-other t (object (member name u (member l v ms))) refl

text-right : (s : List ℕ) (j : ℕ) (u : Shape) → bucket_with (weight_of u) (text s) ≡ None → are_literals (literal (text s)) (expression_from j u) ≡ false
text-right s j null h = ap is_some h
text-right s j (boolean b) h = ap is_some h
text-right s j (whole n) h = ap is_some h
text-right s j other h = ap is_some h
text-right s j (text r) h = ap is_some h
text-right s j (shape.list ts) h = refl
text-right s j (object ms) h = object-right (text s) j ms

pub no-literals : (k j : ℕ) (name weight : Shape) → bucket_with (weight_of weight) name ≡ None → are_literals (expression_from k name) (expression_from j weight) ≡ false
no-literals k j null weight h = left-other null refl (expression_from j weight)
no-literals k j (boolean b) weight h = left-other (boolean b) refl (expression_from j weight)
no-literals k j (whole n) weight h = left-other (whole n) refl (expression_from j weight)
no-literals k j other weight h = left-other other refl (expression_from j weight)
no-literals k j (text s) weight h = text-right s j weight h
no-literals k j (shape.list ts) weight h = refl
no-literals k j (object ms) weight h = object-left k ms (expression_from j weight)

false-not : (b : Bool) → b ≡ false → not b ≡ true
false-not true h = cc
false-not false h = refl

-- ---- no bucketing expression is a list

pick-no_list : (b : Bool) (s a : Expression) → is_list s ≡ false → is_list a ≡ false → is_list (cond b s a) ≡ false
pick-no_list true s a p q = p
pick-no_list false s a p q = q

site-no_list : (k : ℕ) (t : Shape) → is_list (site_from k t) ≡ false
site-no_list k null = refl
site-no_list k (boolean b) = refl
site-no_list k (whole n) = refl
site-no_list k other = refl
site-no_list k (text s) = refl
site-no_list k (shape.list ts) = refl
site-no_list k (object ms) = refl

operation-no_list : (o : Option Operator) (es : Expressions) → is_list (operation_of o es) ≡ false
operation-no_list None es = refl
operation-no_list (Some o) es = refl

object-no_list : (k : ℕ) (ms : Members) → is_list (object_from k ms) ≡ false
object-no_list k no_members = refl
object-no_list k (member name t no_members) = pick-no_list (is_fractional name) _ _ (site-no_list k t) (operation-no_list (operator_of name) _)
object-no_list k (member name t (member l u ms)) = refl

-- a literal is formed where its tree is whole
alone-formed : (b : Bool) → b ≡ true → (b && true) ≡ true
alone-formed b h = both b true h refl

name-formed : (k : ℕ) (name : Shape) → is_formed k (expression_from k name) ≡ true → bucket_is_formed k (bucket_from k (item name no_items)) ≡ true
name-formed k name h =
    bucket-at (entry_of (item name no_items)) _ k (with-small (Some 1) name refl)
    (λ none. both (not (are_literals (expression_from k name) (literal (whole (pos 1))))) _ (false-not _ (no-literals k k name (whole (pos 1)) none))
    (both (is_formed k (expression_from k name)) _ h refl))

pair-formed : (k : ℕ) (name weight : Shape) → is_formed k (expression_from k name) ≡ true → is_formed (k + sites (expression_from k name)) (expression_from (k + sites (expression_from k name)) weight) ≡ true
    → bucket_is_formed k (bucket_from k (item name (item weight no_items))) ≡ true
pair-formed k name weight h g =
    let j = k + sites (expression_from k name) in
    bucket-at (entry_of (item name (item weight no_items))) _ k (with-small (weight_of weight) name (weight-small weight))
    (λ none. both (not (are_literals (expression_from k name) (expression_from j weight))) _ (false-not _ (no-literals k j name weight none))
    (both (is_formed k (expression_from k name)) _ h g))

mutual
  pub is_formed-from : (k : ℕ) (t : Shape) → expression_fault t ≡ None → is_whole t ≡ true → is_formed k (expression_from k t) ≡ true
  is_formed-from k null h w = refl
  is_formed-from k (boolean b) h w = refl
  is_formed-from k (whole n) h w = w
  is_formed-from k other h w = cc
  is_formed-from k (text s) h w = refl
  is_formed-from k (shape.list ts) h w = are_formed-from k ts h w
  is_formed-from k (object ms) h w = object-formed k ms h w

  object-formed : (k : ℕ) (ms : Members) → object_fault ms ≡ None → members_are_whole ms ≡ true → is_formed k (object_from k ms) ≡ true
  object-formed k no_members h w = refl
  object-formed k (member name t no_members) h w =
      let inside = left (is_whole t) true w in
      pick-formed (is_fractional name) _ _ _ _ k h (λ x. site-formed k t x inside)
      (λ x. operation-formed (operator_of name) (argument_count t) k (arguments_from k t) (arguments_fault t) x (argument_count-from k t) (arguments-formed k t (first-right _ _ x) inside))
  object-formed k (member name t (member l u ms)) h w = w

  are_formed-from : (k : ℕ) (ts : Items) → expressions_fault ts ≡ None → items_are_whole ts ≡ true → are_formed k (expressions_from k ts) ≡ true
  are_formed-from k no_items h w = refl
  are_formed-from k (item t ts) h w =
      both (is_formed k (expression_from k t)) _ (is_formed-from k t (first-left _ _ h) (left (is_whole t) _ w))
      (are_formed-from (k + sites (expression_from k t)) ts (first-right _ _ h) (right (is_whole t) _ w))

  arguments-formed : (k : ℕ) (t : Shape) → arguments_fault t ≡ None → is_whole t ≡ true → are_formed k (arguments_from k t) ≡ true
  arguments-formed k null h w = refl
  arguments-formed k (boolean b) h w = refl
  arguments-formed k (whole n) h w = alone-formed _ w
  arguments-formed k other h w = cc
  arguments-formed k (text s) h w = refl
  arguments-formed k (shape.list ts) h w = are_formed-from k ts h w
  arguments-formed k (object ms) h w = alone-formed (is_formed k (object_from k ms)) (object-formed k ms h w)

  site-formed : (k : ℕ) (t : Shape) → site_fault t ≡ None → is_whole t ≡ true → is_formed k (site_from k t) ≡ true
  site-formed k null h w = alone-formed _ (same k)
  site-formed k (boolean b) h w = alone-formed _ (same k)
  site-formed k (whole n) h w = both (k == k) _ (same k) (alone-formed _ w)
  site-formed k other h w = cc
  site-formed k (text s) h w = alone-formed _ (same k)
  site-formed k (shape.list ts) h w =
      let good = chosen-left (are_site_arguments ts) _ h in
      let inside = chosen-right (are_site_arguments ts) _ h in
      both (k == k) _ (same k)
      (both (by_is_formed (suc k) (by_from (suc k) ts)) _ (by-formed (suc k) ts (first-left _ _ inside) w)
      (places-formed (suc k + sites_in_by (by_from (suc k) ts)) ts good (first-right _ _ inside) w))
  site-formed k (object ms) h w =
      both (k == k) _ (same k) (alone-formed _ (both (not (is_list (object_from (suc k) ms))) _ (false-not _ (object-no_list (suc k) ms)) (object-formed (suc k) ms h w)))

  by-formed : (k : ℕ) (ts : Items) → by_fault ts ≡ None → items_are_whole ts ≡ true → by_is_formed k (by_from k ts) ≡ true
  by-formed k no_items h w = refl
  by-formed k (item null ts) h w = refl
  by-formed k (item (boolean b) ts) h w = refl
  by-formed k (item (whole n) ts) h w = left (is_whole (whole n)) _ w
  by-formed k (item other ts) h w = cc
  by-formed k (item (text s) ts) h w = refl
  by-formed k (item (shape.list ps) ts) h w = refl
  by-formed k (item (object ms) ts) h w = both (not (is_list (object_from k ms))) _ (false-not _ (object-no_list k ms)) (object-formed k ms h (left (is_whole (object ms)) _ w))

  places-formed : (k : ℕ) (ts : Items) → are_site_arguments ts ≡ true → buckets_fault ts ≡ None → items_are_whole ts ≡ true → buckets_are_formed k (buckets_from k ts) ≡ true
  places-formed k no_items g h w = refl
  places-formed k (item null ts) g h w = buckets-formed k ts g h (right true _ w)
  places-formed k (item (boolean b) ts) g h w = buckets-formed k ts g h (right true _ w)
  places-formed k (item (whole n) ts) g h w = buckets-formed k ts g h (right (is_whole (whole n)) _ w)
  places-formed k (item other ts) g h w = cc
  places-formed k (item (text s) ts) g h w = buckets-formed k ts g h (right true _ w)
  places-formed k (item (shape.list no_items) ts) g h w = cc
  places-formed k (item (shape.list (item name no_items)) ts) g h w =
      both (bucket_is_formed k (bucket_from k (item name no_items))) _ (name-formed k name (is_formed-from k name (first-left _ _ h) (left (is_whole name) true (left (is_whole (shape.list (item name no_items))) _ w))))
      (buckets-formed (k + sites_in_bucket (bucket_from k (item name no_items))) ts g (first-right (expression_fault name) _ h) (right (is_whole (shape.list (item name no_items))) _ w))
  places-formed k (item (shape.list (item name (item weight no_items))) ts) g h w =
      let inner = left (is_whole (shape.list (item name (item weight no_items)))) _ w in
      both (bucket_is_formed k (bucket_from k (item name (item weight no_items)))) _ (pair-formed k name weight (is_formed-from k name (first-left _ _ (first-left _ _ h)) (left (is_whole name) _ inner))
      (is_formed-from (k + sites (expression_from k name)) weight (first-right (expression_fault name) _ (first-left _ _ h)) (left (is_whole weight) true (right (is_whole name) _ inner))))
      (buckets-formed (k + sites_in_bucket (bucket_from k (item name (item weight no_items)))) ts g (first-right (first (expression_fault name) (expression_fault weight)) _ h) (right (is_whole (shape.list (item name (item weight no_items)))) _ w))
  places-formed k (item (shape.list (item a (item b (item d ps)))) ts) g h w = cc
  places-formed k (item (object ms) ts) g h w = buckets-formed k ts g h (right (is_whole (object ms)) _ w)

  buckets-formed : (k : ℕ) (ts : Items) → are_buckets ts ≡ true → buckets_fault ts ≡ None → items_are_whole ts ≡ true → buckets_are_formed k (buckets_from k ts) ≡ true
  buckets-formed k no_items g h w = refl
  buckets-formed k (item null ts) g h w = cc
  buckets-formed k (item (boolean b) ts) g h w = cc
  buckets-formed k (item (whole n) ts) g h w = cc
  buckets-formed k (item other ts) g h w = cc
  buckets-formed k (item (text s) ts) g h w = cc
  buckets-formed k (item (shape.list no_items) ts) g h w = cc
  buckets-formed k (item (shape.list (item name no_items)) ts) g h w =
      both (bucket_is_formed k (bucket_from k (item name no_items))) _ (name-formed k name (is_formed-from k name (first-left _ _ h) (left (is_whole name) true (left (is_whole (shape.list (item name no_items))) _ w))))
      (buckets-formed (k + sites_in_bucket (bucket_from k (item name no_items))) ts g (first-right (expression_fault name) _ h) (right (is_whole (shape.list (item name no_items))) _ w))
  buckets-formed k (item (shape.list (item name (item weight no_items))) ts) g h w =
      let inner = left (is_whole (shape.list (item name (item weight no_items)))) _ w in
      both (bucket_is_formed k (bucket_from k (item name (item weight no_items)))) _ (pair-formed k name weight (is_formed-from k name (first-left _ _ (first-left _ _ h)) (left (is_whole name) _ inner))
      (is_formed-from (k + sites (expression_from k name)) weight (first-right (expression_fault name) _ (first-left _ _ h)) (left (is_whole weight) true (right (is_whole name) _ inner))))
      (buckets-formed (k + sites_in_bucket (bucket_from k (item name (item weight no_items)))) ts g (first-right (first (expression_fault name) (expression_fault weight)) _ h) (right (is_whole (shape.list (item name (item weight no_items)))) _ w))
  buckets-formed k (item (shape.list (item a (item b (item d ps)))) ts) g h w = cc
  buckets-formed k (item (object ms) ts) g h w = cc

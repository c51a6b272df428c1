-- The measures of a tree are sound where no fault is found in it, and in full where its numbers are whole and no reference is left.
use Rattle.std.proofs.Common.{◌≡◌, ℕ, pos, negsuc, List, Bool, true, false, not, ◌&&◌, ◌||◌, cond, Option, Some, None, refl, sym, ap, ◌∙◌, length, arith}
use Rattle.std.specs.Prelude.{is_none, is_some}
use Rattle.flag_text.specs.Shape.{Shape, null, boolean, whole, other, text, list, object, Items, no_items, item, Members, no_members, member, comes_first, is_whole, items_are_whole, members_are_whole, is_tidy, items_are_tidy, members_are_tidy}
use Rattle.flag_text.proofs.Bools.{left, right}
use Rattle.logic_ast.specs.FirstFault.{item_count, is_bucket, are_buckets, first, operator_fault, expression_fault, object_fault, expressions_fault, arguments_fault, site_fault, buckets_fault, bucket_fault}
use Rattle.logic_ast.specs.Operator.{is_fractional, operator_of, takes}
use Rattle.logic_ast.specs.declared.fault.LogicFault.{LogicFault}
use Rattle.logic_ast.specs.declared.fault.LogicFault.TheVariants.{BadArguments}
use Rattle.logic_ast.specs.declared.operator.Operator.{Operator}
use Rattle.flag_references.specs.Inlining.{is_reference_name, name_in, has_reference, items_have_reference, members_have_reference}
use Rattle.flag_references.specs.Measure.{nothing, scalar, beside, around, when, measure, parts, members_full, first_of_site, in_place_of_bucket, takes_count, operation_measure, member_in_front, object_measure, plus}
use Rattle.flag_references.specs.declared.measure.Reading.{Reading}
use Rattle.flag_references.specs.declared.measure.Measure.{Measure}
use Rattle.flag_references.specs.declared.measure.Parts.{Parts}
use Rattle.flag_references.proofs.Sizes.{counted, many_bucket}

none_of_two : (f g : Option LogicFault) → (is_none f && is_none g) ≡ is_none (first f g)
none_of_two None g = refl
none_of_two (Some f) g = refl

-- ---- the equations of each case

chosen_takes : (b : Bool) (a : Reading) (g : Option LogicFault) → a.is_sound ≡ is_none g → (b && a.is_sound) ≡ is_none (first (cond b None (Some BadArguments)) g)
chosen_takes true a g p = p
chosen_takes false a g p = refl

operation_sound : (b : Bool) (o : Option Operator) (n : ℕ) (site arguments : Reading) (f g : Option LogicFault) → site.is_sound ≡ is_none f → arguments.is_sound ≡ is_none g
    → (cond b site (when (takes_count o n) arguments)).is_sound ≡ is_none (cond b f (first (operator_fault o n) g))
operation_sound true o n site arguments f g p q = p
operation_sound false None n site arguments f g p q = refl
operation_sound false (Some o) n site arguments f g p q = chosen_takes (takes o n) arguments g q

list_site : (a b : Bool) (f g : Option LogicFault) → ((a && is_none f) && (b && is_none g)) ≡ is_none (cond (a && b) (first None (first f g)) (Some BadArguments))
list_site true true None g = refl
list_site true true (Some f) g = refl
list_site true false None g = refl
list_site true false (Some f) g = refl
list_site false b f g = refl

by_site : (b : Bool) (f g : Option LogicFault) → (is_none f && (b && is_none g)) ≡ is_none (cond b (first f g) (Some BadArguments))
by_site true None g = refl
by_site true (Some f) g = refl
by_site false None g = refl
by_site false (Some f) g = refl

list_bucket : (a b : Bool) (f g : Option LogicFault) → ((a && is_none f) && (b && is_none g)) ≡ ((a && b) && is_none (first f g))
list_bucket true true None g = refl
list_bucket true true (Some f) g = refl
list_bucket true false None g = refl
list_bucket true false (Some f) g = refl
list_bucket false b f g = refl

chosen_sound : (b x : Bool) (r : Reading) → (b ≡ true → x ≡ true) → r.is_sound ≡ x → (cond b nothing r).is_sound ≡ x
chosen_sound true x r h p = sym (h refl)
chosen_sound false x r h p = p

-- in a literal nothing is wrong

text_sound : (t : Shape) → (measure t).is_text ≡ true → is_none (expression_fault t) ≡ true
text_sound null h = refl
text_sound (boolean b) h = refl
text_sound (whole n) h = refl
text_sound other h = refl
text_sound (text x) h = refl
text_sound (list ts) h = cc
text_sound (object no_members) h = refl
text_sound (object (member k t no_members)) h = cc
text_sound (object (member k t (member l u ms))) h = refl

weight_sound : (t : Shape) → (measure t).is_weight ≡ true → is_none (expression_fault t) ≡ true
weight_sound null h = refl
weight_sound (boolean b) h = refl
weight_sound (whole n) h = refl
weight_sound other h = refl
weight_sound (text x) h = refl
weight_sound (list ts) h = cc
weight_sound (object no_members) h = refl
weight_sound (object (member k t no_members)) h = cc
weight_sound (object (member k t (member l u ms))) h = refl

both_true : (a b : Bool) (f g : Option LogicFault) → (a ≡ true → is_none f ≡ true) → (b ≡ true → is_none g ≡ true) → (a && b) ≡ true → is_none (first f g) ≡ true
both_true a b f g p q h = sym (none_of_two f g) ∙ rw (p (left a b h), q (right a b h)) refl

-- ---- trees

abbrev pub place_sound : Shape → Bool
place_sound (list ps) = is_bucket (list ps) && is_none (bucket_fault ps)
place_sound t = false

pub record Sound (m : Measure) (t : Shape) : Type 0 where
  pub expression : m.expression.is_sound ≡ is_none (expression_fault t)
  pub arguments : m.arguments.is_sound ≡ is_none (arguments_fault t)
  pub site : m.site.is_sound ≡ is_none (site_fault t)
  pub bucket : m.bucket.is_sound ≡ place_sound t

pub record AllSound (p : Parts) (ts : Items) : Type 0 where
  pub expressions : p.expressions.is_sound ≡ is_none (expressions_fault ts)
  pub site : p.site.is_sound ≡ is_none (site_fault (list ts))
  pub buckets : p.buckets.is_sound ≡ are_buckets ts && is_none (buckets_fault ts)

-- with what stands behind it when that is sound
one_more : (a x : Bool) → a ≡ x → (a && true) ≡ x
one_more true x h = h
one_more false x h = h

bucket_sound : (ps : Items) → (parts ps).expressions.is_sound ≡ is_none (expressions_fault ps) → (in_place_of_bucket (item_count ps) (parts ps)).is_sound ≡ place_sound (list ps)
bucket_sound no_items h = refl
bucket_sound (item name no_items) h =
    let e : ((measure name).expression.is_sound && true) ≡ is_none (expression_fault name) = h ∙ (sym (none_of_two (expression_fault name) None) ∙ one_more (is_none (expression_fault name)) _ refl) in
    chosen_sound (measure name).is_text (is_none (expression_fault name)) (around (beside (parts (item name no_items)).expressions scalar)) (text_sound name) (one_more _ _ e)
bucket_sound (item name (item weight no_items)) h =
    let ps = item name (item weight no_items) in
    let last : is_none (first (expression_fault weight) None) ≡ is_none (expression_fault weight) = sym (none_of_two (expression_fault weight) None) ∙ one_more (is_none (expression_fault weight)) _ refl in
    let e : (parts ps).expressions.is_sound ≡ is_none (first (expression_fault name) (expression_fault weight)) =
    h ∙ (sym (none_of_two (expression_fault name) (first (expression_fault weight) None)) ∙ (ap (λ b. is_none (expression_fault name) && b) last ∙ none_of_two (expression_fault name) (expression_fault weight))) in
    chosen_sound ((measure name).is_text && (measure weight).is_weight) (is_none (first (expression_fault name) (expression_fault weight))) (around (parts ps).expressions)
    (both_true (measure name).is_text (measure weight).is_weight (expression_fault name) (expression_fault weight) (text_sound name) (weight_sound weight)) e
bucket_sound (item a (item b (item d ts))) h =
    let ps = item a (item b (item d ts)) in
    ap (λ r. r.is_sound) (many_bucket (item_count ps) (parts ps) (omega arith))

object_sound : (full expression : Reading) (bytes : ℕ) (ms : Members) → expression.is_sound ≡ is_none (object_fault ms) → Sound (object_measure full expression bytes) (object ms)
object_sound full expression bytes ms h = record { expression = h; arguments = h; site = h; bucket = refl }

-- ---- the first item of a site

front_sound : (t : Shape) (ts : Items) → Sound (measure t) t → AllSound (parts ts) ts → ((first_of_site (measure t)).is_sound && (parts ts).buckets.is_sound) ≡ is_none (site_fault (list (item t ts)))
front_sound null ts h p = rw (h.expression, p.buckets) (by_site (are_buckets ts) None (buckets_fault ts))
front_sound (boolean b) ts h p = rw (h.expression, p.buckets) (by_site (are_buckets ts) None (buckets_fault ts))
front_sound (whole (pos n)) ts h p = rw (h.expression, p.buckets) (by_site (are_buckets ts) None (buckets_fault ts))
front_sound (whole (negsuc n)) ts h p = rw (h.expression, p.buckets) (by_site (are_buckets ts) None (buckets_fault ts))
front_sound other ts h p = rw (h.expression, p.buckets) (by_site (are_buckets ts) None (buckets_fault ts))
front_sound (text x) ts h p = rw (h.expression, p.buckets) (by_site (are_buckets ts) None (buckets_fault ts))
front_sound (list ps) ts h p = rw (h.bucket, p.buckets) (list_site (is_bucket (list ps)) (are_buckets ts) (bucket_fault ps) (buckets_fault ts))
front_sound (object no_members) ts h p = rw (h.expression, p.buckets) (by_site (are_buckets ts) None (buckets_fault ts))
front_sound (object (member k t no_members)) ts h p = rw (h.expression, p.buckets) (by_site (are_buckets ts) (object_fault (member k t no_members)) (buckets_fault ts))
front_sound (object (member k t (member l u ms))) ts h p = rw (h.expression, p.buckets) (by_site (are_buckets ts) None (buckets_fault ts))

place_front : (t : Shape) (ts : Items) → (place_sound t && (are_buckets ts && is_none (buckets_fault ts))) ≡ (are_buckets (item t ts) && is_none (buckets_fault (item t ts)))
place_front null ts = refl
place_front (boolean b) ts = refl
place_front (whole n) ts = refl
place_front other ts = refl
place_front (text x) ts = refl
place_front (list ps) ts = list_bucket (is_bucket (list ps)) (are_buckets ts) (bucket_fault ps) (buckets_fault ts)
place_front (object ms) ts = refl

mutual
  pub sound : (t : Shape) → Sound (measure t) t
  sound null = record { expression = refl; arguments = refl; site = refl; bucket = refl }
  sound (boolean b) = record { expression = refl; arguments = refl; site = refl; bucket = refl }
  sound (whole (pos n)) = record { expression = refl; arguments = refl; site = refl; bucket = refl }
  sound (whole (negsuc n)) = record { expression = refl; arguments = refl; site = refl; bucket = refl }
  sound other = record { expression = refl; arguments = refl; site = refl; bucket = refl }
  sound (text x) = record { expression = refl; arguments = refl; site = refl; bucket = refl }
  sound (list ts) =
      let p = all_sound ts in
      record { expression = p.expressions; arguments = p.expressions; site = p.site; bucket = bucket_sound ts p.expressions }
  sound (object no_members) = object_sound (around nothing) (around nothing) 0 no_members refl
  sound (object (member k t no_members)) =
      let m = measure t in
      let h = sound t in
      let one = operation_sound (is_fractional k) (operator_of k) m.argument_count m.site m.arguments (site_fault t) (arguments_fault t) h.site h.arguments in
      let count = ap (λ n. is_none (cond (is_fractional k) (site_fault t) (first (operator_fault (operator_of k) n) (arguments_fault t)))) (counted t).argument_count in
      object_sound (operation_measure k m).full (operation_measure k m).expression (plus (length k) m.bytes) (member k t no_members) (one ∙ count)
  sound (object (member k t (member l u ms))) =
      let all = member_in_front k (measure t) (member_in_front l (measure u) (members_full ms)) in
      object_sound (around all.0) (around (record all.0 { is_sound = true })) all.1 (member k t (member l u ms)) refl

  all_sound : (ts : Items) → AllSound (parts ts) ts
  all_sound no_items = record { expressions = refl; site = refl; buckets = refl }
  all_sound (item t ts) =
      let h = sound t in
      let p = all_sound ts in record {
        expressions = rw (h.expression, p.expressions) (none_of_two (expression_fault t) (expressions_fault ts));
        site = front_sound t ts h p;
        buckets = rw (h.bucket, p.buckets) (place_front t ts);
      }

-- ---- in full

whole_one : (a w r : Bool) → (not a && (w && not r)) ≡ ((w && true) && not (a || (r || false)))
whole_one true true true = refl
whole_one true true false = refl
whole_one true false r = refl
whole_one false true true = refl
whole_one false true false = refl
whole_one false false r = refl

whole_two : (w r v s : Bool) → ((w && not r) && (v && not s)) ≡ ((w && v) && not (r || s))
whole_two true true true s = refl
whole_two true true false s = refl
whole_two true false v s = refl
whole_two false r v s = refl

no_text : (b : Bool) → (b && false) ≡ false
no_text true = refl
no_text false = refl

a_text : (b : Bool) (x : List ℕ) → (b && true) ≡ is_some (cond b (Some x) None)
a_text true x = refl
a_text false x = refl

refers : (k : List ℕ) (t : Shape) → (is_reference_name k && (measure t).is_text) ≡ is_some (name_in k t)
refers k null = no_text (is_reference_name k)
refers k (boolean b) = no_text (is_reference_name k)
refers k (whole (pos n)) = no_text (is_reference_name k)
refers k (whole (negsuc n)) = no_text (is_reference_name k)
refers k other = no_text (is_reference_name k)
refers k (text x) = a_text (is_reference_name k) x
refers k (list ts) = no_text (is_reference_name k)
refers k (object no_members) = no_text (is_reference_name k)
refers k (object (member l t no_members)) = no_text (is_reference_name k)
refers k (object (member l t (member x u ms))) = no_text (is_reference_name k)

mutual
  pub sound_full : (t : Shape) → is_tidy t ≡ true → (measure t).full.is_sound ≡ (is_whole t && not (has_reference t))
  sound_full null h = refl
  sound_full (boolean b) h = refl
  sound_full (whole (pos n)) h = refl
  sound_full (whole (negsuc n)) h = refl
  sound_full other h = refl
  sound_full (text x) h = refl
  sound_full (list ts) h = items_full ts h
  sound_full (object no_members) h = refl
  sound_full (object (member k t no_members)) h =
      rw (refers k t, sound_full t (left (is_tidy t) true h)) (whole_one (is_some (name_in k t)) (is_whole t) (has_reference t))
  sound_full (object (member k t (member l u ms))) h = members_sound (member k t (member l u ms)) h

  items_full : (ts : Items) → items_are_tidy ts ≡ true → (parts ts).full.is_sound ≡ (items_are_whole ts && not (items_have_reference ts))
  items_full no_items h = refl
  items_full (item t ts) h =
      rw (sound_full t (left (is_tidy t) (items_are_tidy ts) h), items_full ts (right (is_tidy t) (items_are_tidy ts) h)) (whole_two (is_whole t) (has_reference t) (items_are_whole ts) (items_have_reference ts))

  members_sound : (ms : Members) → members_are_tidy ms ≡ true → (members_full ms).0.is_sound ≡ (members_are_whole ms && not (members_have_reference ms))
  members_sound no_members h = refl
  members_sound (member k t ms) h =
      let rest = right (comes_first k ms) (is_tidy t && members_are_tidy ms) h in
      rw (left (comes_first k ms) (is_tidy t && members_are_tidy ms) h, sound_full t (left (is_tidy t) (members_are_tidy ms) rest), members_sound ms (right (is_tidy t) (members_are_tidy ms) rest))
      (whole_two (is_whole t) (has_reference t) (members_are_whole ms) (members_have_reference ms))

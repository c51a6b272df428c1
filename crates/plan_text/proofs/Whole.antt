-- What is read of a tree of whole numbers has whole numbers.
use Rattle.std.proofs.Common.{◌≡◌, ℕ, ℤ, pos, negsuc, ◌≤◌, ◌^◌, List, ◌∷◌, Bool, true, false, cond, codes, ltb, Option, Some, None, option_map, option_and_then, IfOk, Result, Ok, Err, refl, subst, arith}
use Rattle.std.specs.Cmp.Lexicographic.{slice_cmp}
use Rattle.std.specs.Map.{keys_of}
use Rattle.std.specs.Ordering.{nat_cmp}
use Rattle.std.specs.Result.{result_ok}
use Rattle.std.specs.Str.{bytes_eq}
use Rattle.std.proofs.lemmas.Bool.{lt-ltb, ltb-true}
use Rattle.flag_text.specs.Outcome.{GivesUnless}
use Rattle.flag_text.proofs.Bools.{both, left, right, Holds, Holds-map, Holds-and_then}
use Rattle.flag_text.specs.Readers.{as_whole, as_text, as_list, find_member, member_of}
use Rattle.flag_text.specs.Shape.{Shape, null, boolean, whole, other, text, list, object, Items, no_items, item, Members, no_members, member, is_in_range, comes_first, is_whole, items_are_whole, members_are_whole}
use Rattle.bucket_core.specs.Reading.{in_weights, weight_of}
use Rattle.bucket_core.specs.Rule.{Entries, total_weight}
use Rattle.bucket_core.specs.declared.fault.RuleFault.TheVariants.{NoWeight, TooHeavy}
use Rattle.price_core.specs.Request.{number_below}
use Rattle.transport_core.specs.Groups.{GroupKey, group_cmp}
use Rattle.transport_core.specs.declared.certificate.CutKind.{CutKind}
use Rattle.transport_core.specs.declared.certificate.CutKind.TheVariants.{Over, Under}
use Rattle.plan_text.specs.Answer.{Answer, none_exists, planned_view}
use Rattle.plan_text.specs.declared.fault.PlanFileFault.{PlanFileFault}
use Rattle.plan_text.specs.declared.fault.PlanFileFault.TheVariants.{WantOfMemory}
use Rattle.plan_text.specs.declared.planned.Planned.{Planned}
use Rattle.transport_core.specs.WrittenCertificate.{items_by, alpha_written, beta_written}
use Rattle.plan_text.specs.PlanFile.{entry_written, planned_written, each, items_in, alpha_parts, alpha_of, beta_parts, beta_of, entry_parts, entry_of, rises, is_canonical, if_alpha_rises, if_beta_rises, if_names_rise, if_canonical, canonical_rule, alpha_in, beta_in, cost_in, rule_in, names_in, emit_in, has_rule_member, set_in, form_in, answer_by, planned_of, if_plan}
use Rattle.plan_text.specs.declared.form.Form.{Form}
use Rattle.plan_text.specs.declared.form.Form.TheVariants.{Rule, Set}

any_holds : {A : Type 0} (o : Option A) → Holds (λ _. true) o
any_holds None = tt
any_holds (Some a) = refl

-- what a test lets through
kept : {A : Type 0} (f : A → Bool) (b : Bool) (a : A) → f a ≡ true → Holds f (cond b (Some a) None)
kept f true a h = h
kept f false a h = tt

-- one of two
either : (b : Bool) (o p : Option Shape) → Holds is_whole o → Holds is_whole p → Holds is_whole (cond b o p)
either true o p h k = h
either false o p h k = k

-- ---- members

find_whole : (name : List ℕ) (ms : Members) → members_are_whole ms ≡ true → Holds is_whole (find_member name ms)
find_whole name no_members h = tt
find_whole name (member k t ms) h =
    either (bytes_eq k name) (Some t) (find_member name ms) (left (is_whole t) _ (right (comes_first k ms) _ h)) (find_whole name ms (right (is_whole t) _ (right (comes_first k ms) _ h)))

member_whole : (name : List ℕ) (t : Shape) → is_whole t ≡ true → Holds is_whole (member_of name t)
member_whole name null h = tt
member_whole name (boolean b) h = tt
member_whole name (whole n) h = tt
member_whole name other h = tt
member_whole name (text s) h = tt
member_whole name (list ts) h = tt
member_whole name (object ms) h = find_whole name ms h

list_whole : (t : Shape) → is_whole t ≡ true → Holds items_are_whole (as_list t)
list_whole null h = tt
list_whole (boolean b) h = tt
list_whole (whole n) h = tt
list_whole other h = tt
list_whole (text s) h = tt
list_whole (list ts) h = h
list_whole (object ms) h = tt

items_whole : (name : List ℕ) (t : Shape) → is_whole t ≡ true → Holds items_are_whole (items_in name t)
items_whole name t h = Holds-and_then is_whole items_are_whole as_list list_whole (member_of name t) (member_whole name t h)

-- ---- numbers

whole_holds : (t : Shape) → is_whole t ≡ true → Holds is_in_range (as_whole t)
whole_holds null h = tt
whole_holds (boolean b) h = tt
whole_holds (whole n) h = h
whole_holds other h = tt
whole_holds (text s) h = tt
whole_holds (list ts) h = tt
whole_holds (object ms) h = tt

-- a number below one of at most 2^53
below_by : (b : Bool) (k n : ℕ) → ltb k n ≡ b → n ≤ 2 ^ 53 → Holds (λ k. is_in_range (pos k)) (cond b (Some k) None)
below_by true k n h small = let below = ltb-true k n h in lt-ltb k (2 ^ 53) (omega (arith, below, small))
below_by false k n h small = tt

below_holds : (n : ℕ) → n ≤ 2 ^ 53 → (t : Shape) → Holds (λ k. is_in_range (pos k)) (number_below n t)
below_holds n small null = tt
below_holds n small (boolean b) = tt
below_holds n small (whole (pos k)) = below_by (ltb k n) k n refl small
below_holds n small (whole (negsuc k)) = tt
below_holds n small other = tt
below_holds n small (text s) = tt
below_holds n small (list ts) = tt
below_holds n small (object ms) = tt

in_weights_holds : (z : ℤ) → Holds (λ k. is_in_range (pos k)) (in_weights z)
in_weights_holds (pos k) = below_by (ltb k (2 ^ 31)) k (2 ^ 31) refl (omega arith)
in_weights_holds (negsuc k) = tt

weight_holds : (t : Shape) → Holds (λ k. is_in_range (pos k)) (weight_of t)
weight_holds t = Holds-and_then (λ _. true) (λ k. is_in_range (pos k)) in_weights (λ z _. in_weights_holds z) (as_whole t) (any_holds (as_whole t))

-- ---- rows

abbrev pub are_whole : {X : Type 0} → (X → Shape) → List X → Bool
are_whole g xs = items_are_whole (items_by g xs)

alpha_whole : (ts : Items) → items_are_whole ts ≡ true → Holds (λ a. is_whole (alpha_written a)) (alpha_parts ts)
alpha_whole no_items h = tt
alpha_whole (item a no_items) h = tt
alpha_whole (item a (item b no_items)) h = tt
alpha_whole (item a (item b (item d no_items))) h =
    let fine : GroupKey × ℤ → Bool = λ a. is_whole (alpha_written a) in
    Holds-and_then (λ _. true) fine (λ s. option_and_then (λ k. option_map (λ z. ((s, k), z)) (as_whole d)) (number_below (2 ^ 32) b))
    (λ s _. Holds-and_then (λ k. is_in_range (pos k)) fine (λ k. option_map (λ z. ((s, k), z)) (as_whole d))
    (λ k in_range. Holds-map is_in_range fine (λ z. ((s, k), z)) (λ z h. both _ _ in_range (both _ _ h refl)) (as_whole d)
    (whole_holds d (left (is_whole d) _ (right (is_whole b) _ (right (is_whole a) _ h)))))
    (number_below (2 ^ 32) b) (below_holds (2 ^ 32) (omega arith) b))
    (as_text a) (any_holds (as_text a))
alpha_whole (item a (item b (item d (item e ts)))) h = tt

beta_whole : (ts : Items) → items_are_whole ts ≡ true → Holds (λ b. is_whole (beta_written b)) (beta_parts ts)
beta_whole no_items h = tt
beta_whole (item a no_items) h = tt
beta_whole (item a (item b no_items)) h =
    let fine : List ℕ × ℤ → Bool = λ b. is_whole (beta_written b) in
    Holds-and_then (λ _. true) fine (λ s. option_map (λ z. (s, z)) (as_whole b))
    (λ s _. Holds-map is_in_range fine (λ z. (s, z)) (λ z h. both _ _ h refl) (as_whole b) (whole_holds b (left (is_whole b) _ (right (is_whole a) _ h))))
    (as_text a) (any_holds (as_text a))
beta_whole (item a (item b (item d ts))) h = tt

entry_whole : (ts : Items) → items_are_whole ts ≡ true → Holds (λ e. is_whole (entry_written e)) (entry_parts ts)
entry_whole no_items h = tt
entry_whole (item a no_items) h = tt
entry_whole (item a (item b no_items)) h =
    let fine : List ℕ × ℕ → Bool = λ e. is_whole (entry_written e) in
    Holds-and_then (λ _. true) fine (λ s. option_map (λ k. (s, k)) (weight_of b))
    (λ s _. Holds-map (λ k. is_in_range (pos k)) fine (λ k. (s, k)) (λ k h. both _ _ h refl) (weight_of b) (weight_holds b))
    (as_text a) (any_holds (as_text a))
entry_whole (item a (item b (item d ts))) h = tt

-- a row is a list
row_whole : {X : Type 0} (parts : Items → Option X) (g : X → Shape) → ((ts : Items) → items_are_whole ts ≡ true → Holds (λ x. is_whole (g x)) (parts ts))
    → (t : Shape) → is_whole t ≡ true → Holds (λ x. is_whole (g x)) (option_and_then parts (as_list t))
row_whole parts g each_part t h = Holds-and_then items_are_whole (λ x. is_whole (g x)) parts each_part (as_list t) (list_whole t h)

each_whole : {X : Type 0} (f : Shape → Option X) (g : X → Shape) → ((t : Shape) → is_whole t ≡ true → Holds (λ x. is_whole (g x)) (f t))
    → (ts : Items) → items_are_whole ts ≡ true → Holds (are_whole g) (each f ts)
each_whole f g row no_items h = refl
each_whole f g row (item t ts) h =
    Holds-and_then (λ x. is_whole (g x)) (are_whole g) (λ x. option_map (λ xs. x ∷ xs) (each f ts))
    (λ x first. Holds-map (are_whole g) (are_whole g) (λ xs. x ∷ xs) (λ xs rest. both _ _ first rest) (each f ts) (each_whole f g row ts (right (is_whole t) _ h)))
    (f t) (row t (left (is_whole t) _ h))

rows_whole : {X : Type 0} (f : Shape → Option X) (g : X → Shape) (keep : List X → Option (List X)) → ((t : Shape) → is_whole t ≡ true → Holds (λ x. is_whole (g x)) (f t))
    → ((xs : List X) → are_whole g xs ≡ true → Holds (are_whole g) (keep xs)) → (name : List ℕ) (t : Shape) → is_whole t ≡ true
    → Holds (are_whole g) (option_and_then keep (option_and_then (each f) (items_in name t)))
rows_whole f g keep row kept name t h =
    Holds-and_then (are_whole g) (are_whole g) keep kept (option_and_then (each f) (items_in name t))
    (Holds-and_then items_are_whole (are_whole g) (each f) (each_whole f g row) (items_in name t) (items_whole name t h))

canonical_whole : (r : Entries) → are_whole entry_written r ≡ true → Holds (are_whole entry_written) (canonical_rule r)
canonical_whole r h = by (ltb 0 (total_weight r)) (ltb (total_weight r) (2 ^ 31))
  where
    by : (some small : Bool) → Holds (are_whole entry_written) (option_and_then if_canonical (result_ok (cond some (cond small (Ok r) (Err TooHeavy)) (Err NoWeight))))
    by true true = kept (are_whole entry_written) (is_canonical r) r h
    by true false = tt
    by false small = tt

-- ---- the whole

text_whole : (t : Shape) → is_whole t ≡ true → Holds (λ s. is_whole (text s)) (as_text t)
text_whole t h = any_holds (as_text t)

abbrev pub is_printable : Answer → Bool
is_printable a = is_whole (planned_written a)

emit_whole : (t : Shape) → is_whole t ≡ true → Holds is_printable (emit_in t)
emit_whole t h =
    Holds-and_then (are_whole alpha_written) is_printable _
    (λ alpha a. Holds-and_then (are_whole beta_written) is_printable _
    (λ beta b. Holds-and_then (λ k. is_in_range (pos k)) is_printable _
    (λ cost d. Holds-map (are_whole entry_written) is_printable _
    (λ rule e. both (are_whole alpha_written alpha) _ a (both (are_whole beta_written beta) _ b (both (is_in_range (pos cost)) _ d (both (are_whole entry_written rule) _ e refl))))
    (rule_in t) (rows_whole entry_of entry_written canonical_rule (row_whole entry_parts entry_written entry_whole) canonical_whole (codes "rule") t h))
    (cost_in t) (Holds-and_then is_whole (λ k. is_in_range (pos k)) (number_below (2 ^ 53)) (λ u _. below_holds (2 ^ 53) (omega arith) u) (member_of (codes "cost") t) (member_whole (codes "cost") t h)))
    (beta_in t) (rows_whole beta_of beta_written if_beta_rises (row_whole beta_parts beta_written beta_whole) (λ xs. kept (are_whole beta_written) (rises (slice_cmp nat_cmp) (keys_of xs)) xs) (codes "beta") t h))
    (alpha_in t) (rows_whole alpha_of alpha_written if_alpha_rises (row_whole alpha_parts alpha_written alpha_whole) (λ xs. kept (are_whole alpha_written) (rises group_cmp (keys_of xs)) xs) (codes "alpha") t h)

none_whole : (kind : CutKind) (names : List (List ℕ)) → are_whole text names ≡ true → is_printable (none_exists kind names) ≡ true
none_whole Over names h = both _ _ h refl
none_whole Under names h = both _ _ h refl

set_whole : (kind : CutKind) (t : Shape) → is_whole t ≡ true → Holds is_printable (set_in kind t)
set_whole kind t h = by (has_rule_member t)
  where
    names : Holds (are_whole text) (names_in t)
    names = rows_whole as_text text if_names_rise text_whole (λ xs. kept (are_whole text) (rises (slice_cmp nat_cmp) xs) xs) (codes "none") t h

    by : (b : Bool) → Holds is_printable (cond b None (option_map (none_exists kind) (names_in t)))
    by true = tt
    by false = Holds-map (are_whole text) is_printable (none_exists kind) (none_whole kind) (names_in t) names

answer_whole : (t : Shape) → is_whole t ≡ true → (form : Form) → Holds is_printable (answer_by t form)
answer_whole t h Rule = emit_whole t h
answer_whole t h (Set kind) = set_whole kind t h

planned_holds : (t : Shape) → is_whole t ≡ true → Holds is_printable (planned_of t)
planned_holds t h = Holds-and_then (λ _. true) is_printable (answer_by t) (λ form _. answer_whole t h form) (form_in t) (any_holds (form_in t))

-- an answer that is read of such a tree
pub planned_whole : (t : Shape) (a : Answer) → is_whole t ≡ true → planned_of t ≡ Some a → is_whole (planned_written a) ≡ true
planned_whole t a h is = subst (λ o. Holds is_printable o) is (planned_holds t h)

plan_is : (o : Option Answer) (a : Answer) → if_plan o ≡ Ok a → o ≡ Some a
plan_is None a h = cc
plan_is (Some x) a h = cc

-- what is given of such a tree can be printed
pub read_whole : (r : Result Planned PlanFileFault) (t : Shape) → is_whole t ≡ true → GivesUnless WantOfMemory planned_view r (if_plan (planned_of t)) → IfOk r (λ p. is_whole (planned_written (planned_view p)) ≡ true)
read_whole (Ok p) t h given = planned_whole t (planned_view p) h (plan_is (planned_of t) (planned_view p) given)
read_whole (Err e) t h given = tt

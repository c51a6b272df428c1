-- A misfit is all that keeps a tree from being a plan.
use Rattle.std.proofs.Common.{◌≡◌, ℕ, ◌+◌, ◌^◌, ℤ, pos, negsuc, nat_lt, nat_eq, Bool, true, false, not, ◌&&◌, ◌||◌, cond, List, [], ◌∷◌, map, codes, Option, Some, None, is_some, is_none, IfSome, option_map, option_and_then, Ordering, Ok, Err, refl, subst, sym, ap, ◌∙◌}
use Rattle.std.specs.Cmp.Lexicographic.{slice_cmp}
use Rattle.std.specs.Map.{keys_of}
use Rattle.std.specs.Option.{option_or}
use Rattle.std.specs.Ordering.{nat_cmp}
use Rattle.std.specs.Result.{result_ok}
use Rattle.std.proofs.lemmas.List.Sums.{sum_by-cons}
use Rattle.flag_text.specs.Readers.{as_whole, as_text, as_list, member_of}
use Rattle.flag_text.specs.Shape.{Shape, null, boolean, whole, other, text, list, object, Items, no_items, item}
use Rattle.bucket_core.specs.Reading.{in_weights}
use Rattle.bucket_core.specs.Rule.{Entries, total_weight}
use Rattle.bucket_core.specs.declared.fault.RuleFault.TheVariants as rule_fault
use Rattle.price_core.specs.Request.{number_below}
use Rattle.transport_core.specs.Groups.{GroupKey, group_cmp}
use Rattle.transport_core.specs.declared.certificate.CutKind.{CutKind}
use Rattle.transport_core.specs.declared.certificate.CutKind.TheVariants.{Over, Under}
use Rattle.plan_text.specs.Answer.{Answer, emit, none_exists}
use Rattle.plan_text.specs.Misfit.{is_group_row, is_bucket, is_formed, is_free, group_of, row_name, next, precedes, stands_apart, first_failing, weight_or_none, weights_of, total_fault, unless, shape_fault_of, content_fault_of, misfit_of}
use Rattle.plan_text.specs.PlanFile.{comes_before, rises, begins_apart, is_canonical, each, alpha_parts, alpha_of, beta_of, entry_parts, entry_of, if_alpha_rises, if_beta_rises, if_names_rise, if_canonical, canonical_rule, form_of, answer_by, planned_of, is_under}
use Rattle.plan_text.specs.declared.form.Form.{Form}
use Rattle.plan_text.specs.declared.form.Form.TheVariants.{Rule, Set}
use Rattle.plan_text.specs.declared.misfit.ItemFault.{ItemFault}
use Rattle.plan_text.specs.declared.misfit.ItemFault.TheVariants.{Misshapen, OutOfRange, OutOfOrder}
use Rattle.plan_text.specs.declared.misfit.Misfit.{Misfit}
use Rattle.plan_text.specs.declared.misfit.Misfit.TheVariants.{Plan, NoList, Cost, Item, UnknownForm, RuleMember, CostRange, NoWeight, TooHeavy}
use Rattle.plan_text.specs.declared.misfit.PlanList.{PlanList}
use Rattle.plan_text.specs.declared.misfit.PlanList.TheVariants.{Names, Alpha, Beta, Buckets}

-- ---- truth values

or_true : (b : Bool) → true ≡ (b || true)
or_true true = refl
or_true false = refl

or_true_third : (a b c : Bool) → true ≡ (a || (b || (c || true)))
or_true_third true b c = refl
or_true_third false true c = refl
or_true_third false false true = refl
or_true_third false false false = refl

none_unless : {A : Type 0} (b : Bool) (x : A) → is_none (cond b (Some x) None) ≡ not b
none_unless true x = refl
none_unless false x = refl

told_last : {A : Type 0} (o : Option A) (m : A) → is_some (option_or o (Some m)) ≡ true
told_last None m = refl
told_last (Some x) m = refl

IfSome-from : {A : Type 0} (P Q : A → Type 0) (o : Option A) → ((x : A) → P x → Q x) → IfSome o P → IfSome o Q
IfSome-from P Q None h p = tt
IfSome-from P Q (Some x) h p = h x p

IfSome-both : {A : Type 0} (P Q R : A → Type 0) (o : Option A) → ((x : A) → P x → Q x → R x) → IfSome o P → IfSome o Q → IfSome o R
IfSome-both P Q R None h p q = tt
IfSome-both P Q R (Some x) h p q = h x p q

-- ---- an item that is not read

unread_step : {A : Type 0} (n : ℕ) (o : Option A) (rest : Option (List A)) (found : Option ℕ) → is_some found ≡ is_none rest
    → is_some (cond (is_some o) found (Some n)) ≡ is_none (option_and_then (λ x. option_map (λ xs. x ∷ xs) rest) o)
unread_step n None rest found h = refl
unread_step n (Some x) None found h = h
unread_step n (Some x) (Some xs) found h = h

-- one is found exactly where not all are read
unread : {A : Type 0} (f : Shape → Option A) (n : ℕ) (ts : Items) → is_some (first_failing (λ t rest. is_some (f t)) n ts) ≡ is_none (each f ts)
unread f n no_items = refl
unread f n (item t ts) = unread_step n (f t) (each f ts) (first_failing (λ t rest. is_some (f t)) (n + 1) ts) (unread f (n + 1) ts)

unformed_step : (n : ℕ) (formed read : Bool) (a b : Option ℕ) → (read ≡ true → formed ≡ true) → (is_some a ≡ true → is_some b ≡ true) → is_some (cond formed a (Some n)) ≡ true → is_some (cond read b (Some n)) ≡ true
unformed_step n formed false a b first more h = refl
unformed_step n true true a b first more h = more h
unformed_step n false true a b first more h = let no = first refl in cc

-- what is not of its form is not read
unformed : (formed read : Shape → Bool) → ((t : Shape) → read t ≡ true → formed t ≡ true) → (n : ℕ) (ts : Items)
    → is_some (first_failing (λ t rest. formed t) n ts) ≡ true → is_some (first_failing (λ t rest. read t) n ts) ≡ true
unformed formed read h n no_items found = found
unformed formed read h n (item t ts) found =
    unformed_step n (formed t) (read t) (first_failing (λ t rest. formed t) (n + 1) ts) (first_failing (λ t rest. read t) (n + 1) ts) (h t) (unformed formed read h (n + 1) ts) found

number_whole : (n : ℕ) (t : Shape) → is_some (number_below n t) ≡ true → is_some (as_whole t) ≡ true
number_whole n null h = h
number_whole n (boolean b) h = h
number_whole n (whole (pos k)) h = refl
number_whole n (whole (negsuc k)) h = refl
number_whole n other h = h
number_whole n (text s) h = h
number_whole n (list ts) h = h
number_whole n (object ms) h = h

three_formed : (s : Option (List ℕ)) (k : Option ℕ) (c z : Option ℤ) → (is_some k ≡ true → is_some c ≡ true)
    → is_some {T = GroupKey × ℤ} (option_and_then (λ s. option_and_then (λ k. option_map (λ z. ((s, k), z)) z) k) s) ≡ true → (is_some s && (is_some c && is_some z)) ≡ true
three_formed None k c z count h = h
three_formed (Some s) None c z count h = let no : false ≡ true = h in absurd cc
three_formed (Some s) (Some k) c None count h = let no : false ≡ true = h in absurd cc
three_formed (Some s) (Some k) c (Some z) count h = rw (count refl) refl

group_row_formed : (ts : Items) → is_some (option_and_then alpha_parts (Some ts)) ≡ true → is_group_row ts ≡ true
group_row_formed no_items h = h
group_row_formed (item a no_items) h = h
group_row_formed (item a (item b no_items)) h = h
group_row_formed (item a (item b (item d no_items))) h = three_formed (as_text a) (number_below (2 ^ 32) b) (as_whole b) (as_whole d) (number_whole (2 ^ 32) b) h
group_row_formed (item a (item b (item d (item e ts)))) h = h

alpha_formed : (t : Shape) → is_some (alpha_of t) ≡ true → is_formed Alpha t ≡ true
alpha_formed null h = h
alpha_formed (boolean b) h = h
alpha_formed (whole k) h = h
alpha_formed other h = h
alpha_formed (text s) h = h
alpha_formed (list ts) h = group_row_formed ts h
alpha_formed (object ms) h = h

two_formed : (s : Option (List ℕ)) (z : Option ℤ) → is_some {T = List ℕ × ℕ} (option_and_then (λ s. option_map (λ n. (s, n)) (option_and_then in_weights z)) s) ≡ true → (is_some s && is_some z) ≡ true
two_formed None z h = h
two_formed (Some s) None h = h
two_formed (Some s) (Some z) h = refl

bucket_formed : (ts : Items) → is_some (option_and_then entry_parts (Some ts)) ≡ true → is_bucket ts ≡ true
bucket_formed no_items h = h
bucket_formed (item a no_items) h = let no : false ≡ true = h in absurd cc
bucket_formed (item a (item b no_items)) h = two_formed (as_text a) (as_whole b) h
bucket_formed (item a (item b (item d ts))) h = h

entry_formed : (t : Shape) → is_some (entry_of t) ≡ true → is_formed Buckets t ≡ true
entry_formed null h = h
entry_formed (boolean b) h = h
entry_formed (whole k) h = h
entry_formed other h = h
entry_formed (text s) h = h
entry_formed (list ts) h = bucket_formed ts h
entry_formed (object ms) h = h

-- ---- an item out of order

-- items are good where the first stands well before the rest, and the rest are good
module _ {X : Type 0} (f : Shape → Option X) (test : Option X → Option X → Bool) (good : List X → Bool) (first : X → List X → Bool)
    (none : good [] ≡ true) (more : (x : X) (xs : List X) → good (x ∷ xs) ≡ (first x xs && good xs))
    (alone : (x : X) → test (Some x) None ≡ first x []) (before : (x y : X) (ys : List X) → test (Some x) (Some y) ≡ first x (y ∷ ys)) where
  next_read : (x : X) (o : Option X) (rest : Option (List X)) → IfSome (option_and_then (λ y. option_map (λ ys. y ∷ ys) rest) o) (λ xs. test (Some x) o ≡ first x xs)
  next_read x None rest = tt
  next_read x (Some y) None = tt
  next_read x (Some y) (Some ys) = before x y ys

  next_first : (x : X) (ts : Items) → IfSome (each f ts) (λ xs. test (Some x) (next f ts) ≡ first x xs)
  next_first x no_items = alone x
  next_first x (item t ts) = next_read x (f t) (each f ts)

  found_both : (b g : Bool) (n : ℕ) (found : Option ℕ) → is_some found ≡ not g → is_some (cond b found (Some n)) ≡ not (b && g)
  found_both true g n found h = h
  found_both false g n found h = refl

  unordered_step : (n : ℕ) (o : Option X) (rest : Option (List X)) (p : Option X) (found : Option ℕ) → ((x : X) → IfSome rest (λ xs. test (Some x) p ≡ first x xs)) → IfSome rest (λ xs. is_some found ≡ not (good xs))
      → IfSome (option_and_then (λ x. option_map (λ xs. x ∷ xs) rest) o) (λ xs. is_some (cond (test o p) found (Some n)) ≡ not (good xs))
  unordered_step n None rest p found h k = tt
  unordered_step n (Some x) None p found h k = tt
  unordered_step n (Some x) (Some xs) p found h k =
      ap (λ b. is_some (cond b found (Some n))) (h x) ∙ (found_both (first x xs) (good xs) n found k ∙ ap not (sym (more x xs)))

  unordered : (n : ℕ) (ts : Items) → IfSome (each f ts) (λ xs. is_some (first_failing (λ t rest. test (f t) (next f rest)) n ts) ≡ not (good xs))
  unordered n no_items = ap not (sym none)
  unordered n (item t ts) = unordered_step n (f t) (each f ts) (next f ts) (first_failing (λ t rest. test (f t) (next f rest)) (n + 1) ts) (λ x. next_first x ts) (unordered (n + 1) ts)

-- keys that do not rise
unrisen : {K : Type 0} (cmp : K → K → Ordering) (k : Shape → Option K) (n : ℕ) (ts : Items) → IfSome (each k ts) (λ ks. is_some (first_failing (λ t rest. precedes cmp (k t) (next k rest)) n ts) ≡ not (rises cmp ks))
unrisen cmp k n ts = unordered k (precedes cmp) (rises cmp) (comes_before cmp) refl (λ x xs. refl) (λ x. refl) (λ x y ys. refl) n ts

each_key_step : {R K : Type 0} (g : R → K) (o : Option R) (rest : Option (List R)) (keys : Option (List K)) → keys ≡ option_map (map g) rest
    → option_and_then (λ k. option_map (λ ks. k ∷ ks) keys) (option_map g o) ≡ option_map (map g) (option_and_then (λ r. option_map (λ rs. r ∷ rs) rest) o)
each_key_step g None rest keys h = refl
each_key_step g (Some r) None keys h = ap (option_map (λ ks. g r ∷ ks)) h
each_key_step g (Some r) (Some rs) keys h = ap (option_map (λ ks. g r ∷ ks)) h

each_key : {R K : Type 0} (g : R → K) (f : Shape → Option R) (ts : Items) → each (λ t. option_map g (f t)) ts ≡ option_map (map g) (each f ts)
each_key g f no_items = refl
each_key g f (item t ts) = each_key_step g (f t) (each f ts) (each (λ t. option_map g (f t)) ts) (each_key g f ts)

by_key : {R K : Type 0} (g : R → K) (P : List K → Type 0) (keys : Option (List K)) (rows : Option (List R)) → keys ≡ option_map (map g) rows → IfSome keys P → IfSome rows (λ rs. P (map g rs))
by_key g P keys None is h = tt
by_key g P keys (Some rs) is h = subst (λ (o : Option (List _)). IfSome o P) is h

-- an entry stands well before the rest
abbrev entry_first : List ℕ × ℕ → Entries → Bool
entry_first e es = nat_lt 0 e.1 && begins_apart e.0 es

and_assoc : (a b c : Bool) → (a && (b && c)) ≡ ((a && b) && c)
and_assoc true b c = refl
and_assoc false b c = refl

and_true : (a : Bool) → a ≡ (a && true)
and_true true = refl
and_true false = refl

unseparated : (n : ℕ) (ts : Items) → IfSome (each entry_of ts) (λ es. is_some (first_failing (λ t rest. stands_apart (entry_of t) (next entry_of rest)) n ts) ≡ not (is_canonical es))
unseparated n ts =
    unordered entry_of stands_apart is_canonical entry_first refl (λ e es. and_assoc (nat_lt 0 e.1) (begins_apart e.0 es) (is_canonical es)) (λ e. and_true (nat_lt 0 e.1)) (λ e d es. refl) n ts

-- ---- the sum of the weights

weights_step : (o : Option (List ℕ × ℕ)) (rest : Option Entries) (sum : ℕ) → IfSome rest (λ es. sum ≡ total_weight es)
    → IfSome (option_and_then (λ e. option_map (λ es. e ∷ es) rest) o) (λ es. (weight_or_none o + sum) ≡ total_weight es)
weights_step None rest sum h = tt
weights_step (Some e) None sum h = tt
weights_step (Some e) (Some es) sum h = ap (λ n. e.1 + n) h ∙ sym (sum_by-cons (λ (e : List ℕ × ℕ). e.1) e es)

weights_total : (ts : Items) → IfSome (each entry_of ts) (λ es. weights_of ts ≡ total_weight es)
weights_total no_items = refl
weights_total (item t ts) = weights_step (entry_of t) (each entry_of ts) (weights_of ts) (weights_total ts)

no_rule_at : (es : Entries) (some few : Bool)
    → is_none (option_and_then if_canonical (result_ok (cond some (cond few (Ok es) (Err rule_fault.TooHeavy)) (Err rule_fault.NoWeight)))) ≡ (is_some (cond some (cond few None (Some TooHeavy)) (Some NoWeight)) || not (is_canonical es))
no_rule_at es false few = refl
no_rule_at es true false = refl
no_rule_at es true true = none_unless (is_canonical es) es

no_rule : (es : Entries) → is_none (canonical_rule es) ≡ (is_some (total_fault (total_weight es)) || not (is_canonical es))
no_rule es = no_rule_at es (nat_lt 0 (total_weight es)) (nat_lt (total_weight es) (2 ^ 31))

-- ---- a list, by its faults

by_list : {X Y : Type 0} (g : X → Option Y) (form range order : Bool) (read : Option X) → range ≡ is_none read → (form ≡ true → range ≡ true) → IfSome read (λ xs. order ≡ is_none (g xs))
    → is_none (option_and_then g read) ≡ (form || (range || order))
by_list g true range order None r f o = refl
by_list g false true order None r f o = refl
by_list g false false order None r f o = cc
by_list g true range order (Some xs) r f o = let no = f refl in absurd cc
by_list g false true order (Some xs) r f o = absurd cc
by_list g false false order (Some xs) r f o = sym o

abbrev faults : ItemFault → PlanList → Items → Bool
faults fault l ts = is_some (first_failing (is_free fault l) 0 ts)

alpha_faults : (ts : Items) → is_none (option_and_then if_alpha_rises (each alpha_of ts)) ≡ (faults Misshapen Alpha ts || (faults OutOfRange Alpha ts || faults OutOfOrder Alpha ts))
alpha_faults ts =
    let risen = by_key (λ (a : GroupKey × ℤ). a.0) (λ ks. faults OutOfOrder Alpha ts ≡ not (rises group_cmp ks)) (each group_of ts) (each alpha_of ts) (each_key (λ (a : GroupKey × ℤ). a.0) alpha_of ts) (unrisen group_cmp group_of 0 ts) in
    by_list if_alpha_rises (faults Misshapen Alpha ts) (faults OutOfRange Alpha ts) (faults OutOfOrder Alpha ts) (each alpha_of ts) (unread alpha_of 0 ts)
    (unformed (is_formed Alpha) (λ t. is_some (alpha_of t)) alpha_formed 0 ts)
    (IfSome-from (λ rows. faults OutOfOrder Alpha ts ≡ not (rises group_cmp (keys_of rows))) _ (each alpha_of ts) (λ rows h. h ∙ sym (none_unless (rises group_cmp (keys_of rows)) rows)) risen)

beta_faults : (ts : Items) → is_none (option_and_then if_beta_rises (each beta_of ts)) ≡ (faults Misshapen Beta ts || faults OutOfOrder Beta ts)
beta_faults ts =
    let risen = by_key (λ (b : List ℕ × ℤ). b.0) (λ ks. faults OutOfOrder Beta ts ≡ not (rises (slice_cmp nat_cmp) ks)) (each row_name ts) (each beta_of ts) (each_key (λ (b : List ℕ × ℤ). b.0) beta_of ts) (unrisen (slice_cmp nat_cmp) row_name 0 ts) in
    by_list if_beta_rises false (faults Misshapen Beta ts) (faults OutOfOrder Beta ts) (each beta_of ts) (unread beta_of 0 ts) (λ no. absurd cc)
    (IfSome-from (λ rows. faults OutOfOrder Beta ts ≡ not (rises (slice_cmp nat_cmp) (keys_of rows))) _ (each beta_of ts) (λ rows h. h ∙ sym (none_unless (rises (slice_cmp nat_cmp) (keys_of rows)) rows)) risen)

names_faults : (ts : Items) → is_none (option_and_then if_names_rise (each as_text ts)) ≡ (faults Misshapen Names ts || faults OutOfOrder Names ts)
names_faults ts =
    let risen = unrisen (slice_cmp nat_cmp) as_text 0 ts in
    by_list if_names_rise false (faults Misshapen Names ts) (faults OutOfOrder Names ts) (each as_text ts) (unread as_text 0 ts) (λ no. absurd cc)
    (IfSome-from (λ names. faults OutOfOrder Names ts ≡ not (rises (slice_cmp nat_cmp) names)) _ (each as_text ts) (λ names h. h ∙ sym (none_unless (rises (slice_cmp nat_cmp) names) names)) risen)

rule_faults : (ts : Items) → is_none (option_and_then canonical_rule (each entry_of ts)) ≡ (faults Misshapen Buckets ts || (faults OutOfRange Buckets ts || (is_some (total_fault (weights_of ts)) || faults OutOfOrder Buckets ts)))
rule_faults ts =
    by_list canonical_rule (faults Misshapen Buckets ts) (faults OutOfRange Buckets ts) (is_some (total_fault (weights_of ts)) || faults OutOfOrder Buckets ts) (each entry_of ts) (unread entry_of 0 ts)
    (unformed (is_formed Buckets) (λ t. is_some (entry_of t)) entry_formed 0 ts)
    (IfSome-both (λ es. weights_of ts ≡ total_weight es) (λ es. faults OutOfOrder Buckets ts ≡ not (is_canonical es)) _ (each entry_of ts)
    (λ es sum order. (λ i. is_some (total_fault (sum i)) || order i) ∙ sym (no_rule es)) (weights_total ts) (unseparated 0 ts))

-- ---- a rule with its certificate, by what is read of its members

abbrev faulty : ItemFault → PlanList → Option Items → Option Misfit
faulty fault l o = option_map (Item fault l) (option_and_then (first_failing (is_free fault l) 0) o)

abbrev emit_with : Option (List (GroupKey × ℤ)) → Option (List (List ℕ × ℤ)) → Option ℕ → Option Entries → Option Answer
emit_with alpha beta cost rule =
    option_and_then (λ alpha. option_and_then (λ beta. option_and_then (λ cost. option_map (λ rule. emit rule (record { alpha = alpha; beta = beta; cost = cost })) rule) cost) beta) alpha

emit_none : (alpha : Option (List (GroupKey × ℤ))) (beta : Option (List (List ℕ × ℤ))) (cost : Option ℕ) (rule : Option Entries)
    → is_none (emit_with alpha beta cost rule) ≡ (is_none alpha || (is_none beta || (is_none cost || is_none rule)))
emit_none None beta cost rule = refl
emit_none (Some a) None cost rule = refl
emit_none (Some a) (Some b) None rule = refl
emit_none (Some a) (Some b) (Some c) None = refl
emit_none (Some a) (Some b) (Some c) (Some r) = refl

-- the misfits of four members that are there, sorted by member
sorted_out : (fa fb fr na oa ob : Option ℕ) (cost : Option ℕ) (nr : Option ℕ) (w : Option Misfit) (last : Option ℕ)
    → is_some (option_or (option_or (option_or (option_map (Item Misshapen Alpha) fa) (option_map (Item Misshapen Beta) fb)) (option_map (Item Misshapen Buckets) fr))
    (option_or (option_or (option_or (option_or (option_or (option_or (option_map (Item OutOfRange Alpha) na) (option_map (Item OutOfOrder Alpha) oa)) (option_map (Item OutOfOrder Beta) ob)) (unless (is_some cost) CostRange)) (option_map (Item OutOfRange Buckets) nr)) w) (option_map (Item OutOfOrder Buckets) last)))
    ≡ ((is_some fa || (is_some na || is_some oa)) || ((is_some fb || is_some ob) || (is_none cost || (is_some fr || (is_some nr || (is_some w || is_some last))))))
sorted_out (Some p) fb fr na oa ob cost nr w last = refl
sorted_out None (Some p) fr na oa ob cost nr w last = or_true (is_some na || is_some oa)
sorted_out None None (Some p) na oa ob cost nr w last = or_true_third (is_some na || is_some oa) (is_some ob) (is_none cost)
sorted_out None None None (Some p) oa ob cost nr w last = refl
sorted_out None None None None (Some p) ob cost nr w last = refl
sorted_out None None None None None (Some p) cost nr w last = refl
sorted_out None None None None None None None nr w last = refl
sorted_out None None None None None None (Some c) (Some p) w last = refl
sorted_out None None None None None None (Some c) None (Some m) last = refl
sorted_out None None None None None None (Some c) None None (Some p) = refl
sorted_out None None None None None None (Some c) None None None = refl

module _ (alpha beta rule : Option Items) (number : Option ℤ) (cost : Option ℕ) where
  abbrev member_fault_with : Option Misfit
  member_fault_with = option_or (option_or (option_or (unless (is_some alpha) (NoList Alpha)) (unless (is_some beta) (NoList Beta))) (unless (is_some number) Cost)) (unless (is_some rule) (NoList Buckets))

  abbrev shape_fault_with : Option Misfit
  shape_fault_with = option_or (option_or (faulty Misshapen Alpha alpha) (faulty Misshapen Beta beta)) (faulty Misshapen Buckets rule)

  abbrev rule_fault_with : Option Misfit
  rule_fault_with =
      option_or (option_or (option_or (option_or (option_or (option_or (faulty OutOfRange Alpha alpha) (faulty OutOfOrder Alpha alpha)) (faulty OutOfOrder Beta beta)) (unless (is_some cost) CostRange)) (faulty OutOfRange Buckets rule))
      (option_and_then (λ ts. total_fault (weights_of ts)) rule)) (faulty OutOfOrder Buckets rule)

  abbrev read_with : Option Answer
  read_with = emit_with (option_and_then if_alpha_rises (option_and_then (each alpha_of) alpha)) (option_and_then if_beta_rises (option_and_then (each beta_of) beta)) cost (option_and_then canonical_rule (option_and_then (each entry_of) rule))

ruled : (alpha beta rule : Option Items) (number : Option ℤ) (cost : Option ℕ) → (is_some cost ≡ true → is_some number ≡ true)
    → is_some (option_or (option_or (member_fault_with alpha beta rule number cost) (shape_fault_with alpha beta rule number cost)) (rule_fault_with alpha beta rule number cost)) ≡ is_none (read_with alpha beta rule number cost)
ruled None beta rule number cost h = refl
ruled (Some gs) None rule number cost h =
    or_true (is_none (option_and_then if_alpha_rises (each alpha_of gs))) ∙ sym (emit_none (option_and_then if_alpha_rises (each alpha_of gs)) None cost (option_and_then canonical_rule (option_and_then (each entry_of) rule)))
ruled (Some gs) (Some bs) rule None (Some c) h = let no = h refl in absurd cc
ruled (Some gs) (Some bs) rule None None h =
    or_true_second (is_none (option_and_then if_alpha_rises (each alpha_of gs))) (is_none (option_and_then if_beta_rises (each beta_of bs)))
    ∙ sym (emit_none (option_and_then if_alpha_rises (each alpha_of gs)) (option_and_then if_beta_rises (each beta_of bs)) None (option_and_then canonical_rule (option_and_then (each entry_of) rule)))
  where
    or_true_second : (a b : Bool) → true ≡ (a || (b || true))
    or_true_second true b = refl
    or_true_second false true = refl
    or_true_second false false = refl
ruled (Some gs) (Some bs) None (Some z) cost h =
    or_true_third (is_none (option_and_then if_alpha_rises (each alpha_of gs))) (is_none (option_and_then if_beta_rises (each beta_of bs))) (is_none cost)
    ∙ sym (emit_none (option_and_then if_alpha_rises (each alpha_of gs)) (option_and_then if_beta_rises (each beta_of bs)) cost None)
ruled (Some gs) (Some bs) (Some rs) (Some z) cost h =
    let first = λ (fault : ItemFault) (l : PlanList) (ts : Items). first_failing (is_free fault l) 0 ts in
    sorted_out (first Misshapen Alpha gs) (first Misshapen Beta bs) (first Misshapen Buckets rs) (first OutOfRange Alpha gs) (first OutOfOrder Alpha gs) (first OutOfOrder Beta bs) cost (first OutOfRange Buckets rs) (total_fault (weights_of rs)) (first OutOfOrder Buckets rs)
    ∙ ((λ i. sym (alpha_faults gs) i || (sym (beta_faults bs) i || (is_none cost || sym (rule_faults rs) i)))
    ∙ sym (emit_none (option_and_then if_alpha_rises (each alpha_of gs)) (option_and_then if_beta_rises (each beta_of bs)) cost (option_and_then canonical_rule (each entry_of rs))))

cost_number : (cost : Option Shape) → is_some (option_and_then (number_below (2 ^ 53)) cost) ≡ true → is_some (option_and_then as_whole cost) ≡ true
cost_number None h = h
cost_number (Some t) h = number_whole (2 ^ 53) t h

-- ---- a set of names

none_either : (A : Type 0) (b : Bool) → true ≡ is_none {T = A} (cond b None None)
none_either A true = refl
none_either A false = refl

none_map : {A B : Type 0} (f : A → B) (o : Option A) → is_none (option_map f o) ≡ is_none o
none_map f None = refl
none_map f (Some x) = refl

names_last : (form order : Option ℕ)
    → is_some (option_or (option_or (option_or (option_or (option_map (Item Misshapen Names) form) None) None) None) (option_map (Item OutOfOrder Names) order)) ≡ (is_some form || is_some order)
names_last (Some n) order = refl
names_last None (Some n) = refl
names_last None None = refl

abbrev names_with : CutKind → Bool → Option Items → Option Answer
names_with kind ruled names = cond ruled None (option_map (none_exists kind) (option_and_then if_names_rise (option_and_then (each as_text) names)))

held_at : (kind : CutKind) (ts : Items) (ruled : Bool) (a b r : Option Misfit) → (ruled ≡ false → (a ≡ None) × (b ≡ None) × (r ≡ None))
    → is_some (option_or (option_or (option_or (option_or (faulty Misshapen Names (Some ts)) a) b) r) (cond ruled (Some RuleMember) (faulty OutOfOrder Names (Some ts)))) ≡ is_none (names_with kind ruled (Some ts))
held_at kind ts true a b r h = told_last (option_or (option_or (option_or (faulty Misshapen Names (Some ts)) a) b) r) RuleMember
held_at kind ts false None None None h =
    names_last (first_failing (is_free Misshapen Names) 0 ts) (first_failing (is_free OutOfOrder Names) 0 ts)
    ∙ (sym (names_faults ts) ∙ sym (none_map (none_exists kind) (option_and_then if_names_rise (each as_text ts))))
held_at kind ts false (Some m) b r h = let no = (h refl).0 in absurd cc
held_at kind ts false None (Some m) r h = let no = (h refl).1 in absurd cc
held_at kind ts false None None (Some m) h = let no = (h refl).2 in absurd cc

abbrev ruled_by : Option Shape → Option Shape → Option Shape → Option Shape → Bool
ruled_by alpha beta cost rule = is_some alpha || (is_some beta || (is_some cost || is_some rule))

no_members_of_rule : (alpha beta cost rule : Option Shape) → ruled_by alpha beta cost rule ≡ false
    → (faulty Misshapen Alpha (option_and_then as_list alpha) ≡ None) × (faulty Misshapen Beta (option_and_then as_list beta) ≡ None) × (faulty Misshapen Buckets (option_and_then as_list rule) ≡ None)
no_members_of_rule None None None None h = (refl, refl, refl)
no_members_of_rule (Some t) beta cost rule h = absurd cc
no_members_of_rule None (Some t) cost rule h = absurd cc
no_members_of_rule None None (Some t) rule h = absurd cc
no_members_of_rule None None None (Some t) h = absurd cc

-- ---- the whole, by its members

module _ (none alpha beta cost rule : Option Shape) where
  abbrev kinds_by : Option Misfit
  kinds_by = cond (is_some none) (unless (is_some (option_and_then as_list none)) (NoList Names))
      (member_fault_with (option_and_then as_list alpha) (option_and_then as_list beta) (option_and_then as_list rule) (option_and_then as_whole cost) (option_and_then (number_below (2 ^ 53)) cost))

  abbrev shapes_by : Option Misfit
  shapes_by =
      option_or (option_or (option_or (faulty Misshapen Names (option_and_then as_list none)) (faulty Misshapen Alpha (option_and_then as_list alpha))) (faulty Misshapen Beta (option_and_then as_list beta)))
      (faulty Misshapen Buckets (option_and_then as_list rule))

rule_form : (none alpha beta cost rule : Option Shape) → (is_some none ≡ true → ⊥)
    → is_some (option_or (option_or (kinds_by none alpha beta cost rule) (shapes_by none alpha beta cost rule))
    (rule_fault_with (option_and_then as_list alpha) (option_and_then as_list beta) (option_and_then as_list rule) (option_and_then as_whole cost) (option_and_then (number_below (2 ^ 53)) cost)))
    ≡ is_none (read_with (option_and_then as_list alpha) (option_and_then as_list beta) (option_and_then as_list rule) (option_and_then as_whole cost) (option_and_then (number_below (2 ^ 53)) cost))
rule_form None alpha beta cost rule h =
    ruled (option_and_then as_list alpha) (option_and_then as_list beta) (option_and_then as_list rule) (option_and_then as_whole cost) (option_and_then (number_below (2 ^ 53)) cost) (cost_number cost)
rule_form (Some t) alpha beta cost rule h = absurd (h refl)

held : (kind : CutKind) (names : Option Items) (ruled : Bool) (a b r : Option Misfit) → (ruled ≡ false → (a ≡ None) × (b ≡ None) × (r ≡ None))
    → is_some (option_or (option_or (unless (is_some names) (NoList Names)) (option_or (option_or (option_or (faulty Misshapen Names names) a) b) r)) (cond ruled (Some RuleMember) (faulty OutOfOrder Names names))) ≡ is_none (names_with kind ruled names)
held kind None ruled a b r h = none_either Answer ruled
held kind (Some ts) ruled a b r h = held_at kind ts ruled a b r h

set_form : (kind : CutKind) (none alpha beta cost rule : Option Shape)
    → is_some (option_or (option_or (kinds_by none alpha beta cost rule) (shapes_by none alpha beta cost rule)) (cond (ruled_by alpha beta cost rule) (Some RuleMember) (faulty OutOfOrder Names (option_and_then as_list none))))
    ≡ is_none (names_with kind (ruled_by alpha beta cost rule) (option_and_then as_list none))
set_form kind None None beta cost rule = none_either Answer (ruled_by None beta cost rule)
set_form kind None (Some a) beta cost rule = told_last (option_or (kinds_by None (Some a) beta cost rule) (shapes_by None (Some a) beta cost rule)) RuleMember
set_form kind (Some t) alpha beta cost rule =
    held kind (as_list t) (ruled_by alpha beta cost rule) (faulty Misshapen Alpha (option_and_then as_list alpha)) (faulty Misshapen Beta (option_and_then as_list beta)) (faulty Misshapen Buckets (option_and_then as_list rule))
    (no_members_of_rule alpha beta cost rule)

-- ---- the whole, of an object

no_rule_beside : (one two has under : Bool) → has ≡ true → cond one (Some (cond has (Set Over) Rule)) (cond two (cond under (Some (Set Under)) None) None) ≡ Some Rule → ⊥
no_rule_beside true two true under h is = cc
no_rule_beside true two false under h is = cc
no_rule_beside false true has true h is = cc
no_rule_beside false true has false h is = cc
no_rule_beside false false has under h is = cc

-- where `none` is there, no rule is
no_rule_form : (t : Shape) (n : ℤ) → is_some (member_of (codes "none") t) ≡ true → form_of t n ≡ Some Rule → ⊥
no_rule_form t (pos n) there is = no_rule_beside (nat_eq n 1) (nat_eq n 2) (is_some (member_of (codes "none") t)) (is_under (member_of (codes "side") t)) there is
no_rule_form t (negsuc n) there is = cc

by_form : (t : Shape) (form : Option Form) → (is_some (member_of (codes "none") t) ≡ true → form ≡ Some Rule → ⊥)
    → is_some (option_or (option_or (kinds_by (member_of (codes "none") t) (member_of (codes "alpha") t) (member_of (codes "beta") t) (member_of (codes "cost") t) (member_of (codes "rule") t)) (shape_fault_of t)) (content_fault_of t form))
    ≡ is_none (option_and_then (answer_by t) form)
by_form t None h = told_last (option_or (kinds_by (member_of (codes "none") t) (member_of (codes "alpha") t) (member_of (codes "beta") t) (member_of (codes "cost") t) (member_of (codes "rule") t)) (shape_fault_of t)) UnknownForm
by_form t (Some Rule) h = rule_form (member_of (codes "none") t) (member_of (codes "alpha") t) (member_of (codes "beta") t) (member_of (codes "cost") t) (member_of (codes "rule") t) (λ there. h there refl)
by_form t (Some (Set kind)) h = set_form kind (member_of (codes "none") t) (member_of (codes "alpha") t) (member_of (codes "beta") t) (member_of (codes "cost") t) (member_of (codes "rule") t)

plan_first : (t : Shape) (number : Option ℤ) (kinds shapes : Option Misfit)
    → ((n : ℤ) → is_some (option_or (option_or kinds shapes) (content_fault_of t (form_of t n))) ≡ is_none (option_and_then (answer_by t) (form_of t n)))
    → is_some (option_or (option_or (option_or (unless (is_some number) Plan) kinds) shapes) (content_fault_of t (option_and_then (form_of t) number))) ≡ is_none (option_and_then (answer_by t) (option_and_then (form_of t) number))
plan_first t None kinds shapes h = refl
plan_first t (Some n) kinds shapes h = h n

pub misfit-planned : (t : Shape) → is_some (misfit_of t) ≡ is_none (planned_of t)
misfit-planned null = refl
misfit-planned (boolean b) = refl
misfit-planned (whole n) = refl
misfit-planned other = refl
misfit-planned (text s) = refl
misfit-planned (list ts) = refl
misfit-planned (object ms) =
    let t = object ms in
    plan_first t (option_and_then as_whole (member_of (codes "plan") t)) (kinds_by (member_of (codes "none") t) (member_of (codes "alpha") t) (member_of (codes "beta") t) (member_of (codes "cost") t) (member_of (codes "rule") t)) (shape_fault_of t)
    (λ n. by_form t (form_of t n) (no_rule_form t n))

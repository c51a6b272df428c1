-- The rules of plans that are read are rules that a document may have.
use Rattle.std.proofs.Common.{◌≡◌, ◌∙◌, ◌<◌, ◌^◌, ℕ, ℤ, pos, negsuc, ◌==◌, Bool, true, false, cond, nat_lt, List, Option, Some, None, option_and_then, option_map, Result, Ok, Err, refl, sym, ap, subst, arith, codes, true≢false}
use Rattle.std.proofs.lemmas.Bool.{ltb-true}
use Rattle.std.specs.Prelude.{IfSome}
use Rattle.std.specs.Result.{result_ok}
use Rattle.bucket_core.specs.Rule.{Entries, total_weight}
use Rattle.bucket_core.specs.declared.fault.RuleFault.TheVariants.{NoWeight, TooHeavy}
use Rattle.flag_text.specs.Readers.{as_whole, member_of}
use Rattle.flag_text.specs.Reading.{tree_of}
use Rattle.flag_text.specs.Shape.{Shape}
use Rattle.flag_text.specs.declared.fault.TextFault.{TextFault}
use Rattle.flagops_files.specs.Loading.{max_rule}
use Rattle.flagops_files.specs.PlanFile as plans
use Rattle.flagops_files.specs.declared.refusal.Refusal.TheVariants as file
use Rattle.flagops_rollouts.specs.Loaded.{plan_at}
use Rattle.flagops_rollouts.specs.declared.refusal.RolloutRefusal.TheVariants as rolling
use Rattle.flagops_shell.specs.Files.{Holding, load_of}
use Rattle.flagops_shell.specs.Outcomes.{◌>>=◌, refused_by}
use Rattle.flagops_shell.specs.declared.files.LoadFault.{LoadFault}
use Rattle.product_laws.specs.FloatKept.{IsWritable}
use Rattle.plan_text.proofs.Orders.{weights_small}
use Rattle.plan_text.specs.Answer.{Answer, emit, none_exists}
use Rattle.plan_text.specs.PlanFile.{alpha_in, answer_by, answer_of, beta_in, canonical_rule, cost_in, each, emit_in, entry_of, first_form, form_of, has, has_rule_member, if_canonical, if_plan, if_tree, is_canonical, is_under, items_in, max_plan, names_in, planned_of, rule_in, second_form, set_in}
use Rattle.transport_core.specs.Groups.{GroupKey}
use Rattle.transport_core.specs.declared.certificate.CutKind.{CutKind}
use Rattle.transport_core.specs.declared.certificate.CutKind.TheVariants.{Over, Under}

-- the rule of an answer, if it has one, is such a rule
abbrev pub IsWritableAnswer : Answer → Type 0
IsWritableAnswer (emit rule c) = IsWritable rule
IsWritableAnswer (none_exists kind names) = Unit {0}

-- so is that of a plan, if it is read
abbrev pub IsWritablePlan : {E : Type 0} → Result Answer E → Type 0
IsWritablePlan (Ok answer) = IsWritableAnswer answer
IsWritablePlan (Err e) = Unit {0}

-- ---- options and results

pub some_of : {X Y : Type 0} (Q : Y → Type 0) (f : X → Option Y) → ((x : X) → IfSome (f x) Q) → (o : Option X) → IfSome (option_and_then f o) Q
some_of Q f h None = tt
some_of Q f h (Some x) = h x

any_map : {X Y : Type 0} (Q : Y → Type 0) (f : X → Y) → ((x : X) → Q (f x)) → (o : Option X) → IfSome (option_map f o) Q
any_map Q f h None = tt
any_map Q f h (Some x) = h x

refused_so : {E F : Type 0} (f : E → F) (r : Result Answer E) → IsWritablePlan r → IsWritablePlan (refused_by f r)
refused_so f (Ok answer) h = h
refused_so f (Err e) h = tt

-- ---- a plan

writable : (r : Entries) → nat_lt 0 (total_weight r) ≡ true → nat_lt (total_weight r) (2 ^ 31) ≡ true → IsWritable r
writable r some small = record {
  some = λ e. true≢false (sym some ∙ ap (λ (es : Entries). nat_lt 0 (total_weight es)) e);
  small = let light : total_weight r < 2 ^ 31 = ltb-true (total_weight r) (2 ^ 31) small in weights_small (2 ^ 53) r (omega (arith, light));
}

canonical_writable : (r : Entries) → IfSome (canonical_rule r) IsWritable
canonical_writable r = by (nat_lt 0 (total_weight r)) (nat_lt (total_weight r) (2 ^ 31)) refl refl
  where
    kept : IsWritable r → (b : Bool) → IfSome (cond b (Some r) None) IsWritable
    kept h true = h
    kept h false = tt

    by : (some small : Bool) → nat_lt 0 (total_weight r) ≡ some → nat_lt (total_weight r) (2 ^ 31) ≡ small
        → IfSome (option_and_then if_canonical (result_ok (cond some (cond small (Ok r) (Err TooHeavy)) (Err NoWeight)))) IsWritable
    by true true e f = kept (writable r e f) (is_canonical r)
    by true false e f = tt
    by false small e f = tt

rule_writable : (t : Shape) → IfSome (rule_in t) IsWritable
rule_writable t = some_of IsWritable canonical_rule canonical_writable (option_and_then (each entry_of) (items_in (codes "rule") t))

emit_writable : (t : Shape) → IfSome (emit_in t) IsWritableAnswer
emit_writable t = by (alpha_in t) (beta_in t) (cost_in t) (rule_in t) (rule_writable t)
  where
    by : (a : Option (List (GroupKey × ℤ))) (b : Option (List (List ℕ × ℤ))) (c : Option ℕ) (r : Option Entries) → IfSome r IsWritable
        → IfSome (option_and_then (λ alpha. option_and_then (λ beta. option_and_then (λ cost. option_map (λ rule. emit rule (record { alpha = alpha; beta = beta; cost = cost })) r) c) b) a) IsWritableAnswer
    by None b c r w = tt
    by (Some alpha) None c r w = tt
    by (Some alpha) (Some beta) None r w = tt
    by (Some alpha) (Some beta) (Some cost) None w = tt
    by (Some alpha) (Some beta) (Some cost) (Some rule) w = w

set_writable : (kind : CutKind) (t : Shape) → IfSome (set_in kind t) IsWritableAnswer
set_writable kind t = by (has_rule_member t)
  where
    by : (b : Bool) → IfSome (cond b None (option_map (none_exists kind) (names_in t))) IsWritableAnswer
    by true = tt
    by false = any_map IsWritableAnswer (none_exists kind) (λ names. tt) (names_in t)

-- of whatever form its file has

split : {F : Type 0} (g : F → Option Answer) (b : Bool) (x y f : F) → f ≡ cond b x y → IfSome (g x) IsWritableAnswer → IfSome (g y) IsWritableAnswer → IfSome (g f) IsWritableAnswer
split g true x y f e h k = subst (λ z. IfSome (g z) IsWritableAnswer) (sym e) h
split g false x y f e h k = subst (λ z. IfSome (g z) IsWritableAnswer) (sym e) k

first_writable : (t : Shape) → IfSome (answer_by t (first_form t)) IsWritableAnswer
first_writable t = split (answer_by t) (has (codes "none") t) _ _ (first_form t) refl (set_writable Over t) (emit_writable t)

second_writable : (t : Shape) → IfSome (option_and_then (answer_by t) (second_form t)) IsWritableAnswer
second_writable t = split (option_and_then (answer_by t)) (is_under (member_of (codes "side") t)) _ _ (second_form t) refl (set_writable Under t) tt

either : {F : Type 0} (g : F → Option Answer) (b : Bool) (o p : Option F) → IfSome (option_and_then g o) IsWritableAnswer → IfSome (option_and_then g p) IsWritableAnswer → IfSome (option_and_then g (cond b o p)) IsWritableAnswer
either g true o p h k = h
either g false o p h k = k

number_writable : (t : Shape) (z : ℤ) → IfSome (option_and_then (answer_by t) (form_of t z)) IsWritableAnswer
number_writable t (pos n) =
    either (answer_by t) (n == 1) (Some (first_form t)) (cond (n == 2) (second_form t) None) (first_writable t) (either (answer_by t) (n == 2) (second_form t) None (second_writable t) tt)
number_writable t (negsuc n) = tt

form_writable : (t : Shape) (o : Option ℤ) → IfSome (option_and_then (answer_by t) (option_and_then (form_of t) o)) IsWritableAnswer
form_writable t None = tt
form_writable t (Some z) = number_writable t z

read_plan : (o : Option Answer) → IfSome o IsWritableAnswer → IsWritablePlan (if_plan o)
read_plan None h = tt
read_plan (Some answer) h = h

pub answer_writable : (bytes : List ℕ) → IsWritablePlan (answer_of bytes)
answer_writable bytes = by (tree_of bytes max_plan)
  where
    by : (r : Result Shape TextFault) → IsWritablePlan (if_tree r)
    by (Err e) = tt
    by (Ok t) = read_plan (planned_of t) (form_writable t (option_and_then as_whole (member_of (codes "plan") t)))

loaded_writable : (at : Holding) (path : List ℕ) → IsWritablePlan (plans.plan_at at path)
unfolding plans.plan_at
loaded_writable at path = by (load_of at path max_rule)
  where
    by : (l : Result (List ℕ) LoadFault) → IsWritablePlan (refused_by file.Load l >>= λ bytes. refused_by file.ReadPlanned (answer_of bytes))
    by (Err e) = tt
    by (Ok bytes) = refused_so file.ReadPlanned (answer_of bytes) (answer_writable bytes)

-- the plan of a file
pub plan_writable : (at : Holding) (path : List ℕ) → IsWritablePlan (plan_at at path)
unfolding plan_at
plan_writable at path = refused_so rolling.Load (plans.plan_at at path) (loaded_writable at path)

-- What keeps a tree from being a plan, and where.
use Rattle.std.specs.Prelude.{ℕ, ◌+◌, ◌^◌, nat_lt, Bool, true, false, not, ◌&&◌, List, if◌then◌else◌, Option, Some, None, is_some, option_map, option_and_then, codes}
use denote.Ref.{Bor}
use Rattle.std.specs.Cmp.Lexicographic.{slice_cmp}
use Rattle.std.specs.Option.{option_or}
use Rattle.std.specs.Ordering.{nat_cmp, is_lt}
use Rattle.std.specs.Str.{bytes_eq}
use Rattle.std.specs.declared.cmp.Ordering.{Ordering}
use Rattle.flag_text.specs.Readers.{as_whole, as_text, as_object, member_of}
use Rattle.flag_text.specs.Shape.{Shape, list, Items, no_items, item}
use Rattle.transport_core.specs.Groups.{GroupKey, group_cmp}
use Rattle.plan_text.specs.PlanFile.{items_in, alpha_of, beta_of, entry_of, cost_in, has, has_rule_member, form_in}
use Rattle.plan_text.specs.declared.form.Form.{Form}
use Rattle.plan_text.specs.declared.form.Form.TheVariants.{Rule, Set}
use Rattle.plan_text.specs.declared.misfit.ItemFault.{ItemFault}
use Rattle.plan_text.specs.declared.misfit.ItemFault.TheVariants.{Misshapen, OutOfRange, OutOfOrder}
use Rattle.plan_text.specs.declared.misfit.Misfit.{Misfit}
use Rattle.plan_text.specs.declared.misfit.Misfit.TheVariants.{NoObject, Plan, NoList, Cost, Item, UnknownForm, RuleMember, CostRange, NoWeight, TooHeavy}
use Rattle.plan_text.specs.declared.misfit.PlanList.{PlanList}
use Rattle.plan_text.specs.declared.misfit.PlanList.TheVariants.{Names, Alpha, Beta, Buckets}

-- ---- the form of an item

-- it is a list of which this holds
abbrev pub is_list_of : (Items → Bool) → Shape → Bool
is_list_of test (list ts) = test ts
is_list_of test t = false

-- a name and two numbers
abbrev pub is_group_row : Items → Bool
is_group_row (item name (item count (item n no_items))) = is_some (as_text name) && (is_some (as_whole count) && is_some (as_whole n))
is_group_row ts = false

-- a name, and a number or none
abbrev pub is_bucket : Items → Bool
is_bucket (item name no_items) = is_some (as_text name)
is_bucket (item name (item weight no_items)) = is_some (as_text name) && is_some (as_whole weight)
is_bucket ts = false

abbrev pub is_formed : PlanList → Shape → Bool
is_formed Names t = is_some (as_text t)
is_formed Alpha t = is_list_of is_group_row t
is_formed Beta t = is_some (beta_of t)
is_formed Buckets t = is_list_of is_bucket t

-- ---- the numbers of an item, which are read

abbrev pub is_read : PlanList → Shape → Bool
is_read Names t = is_some (as_text t)
is_read Alpha t = is_some (alpha_of t)
is_read Beta t = is_some (beta_of t)
is_read Buckets t = is_some (entry_of t)

-- ---- the order of the items that are read

abbrev pub group_of : Shape → Option GroupKey
group_of t = option_map (λ a. a.0) (alpha_of t)

abbrev pub row_name : Shape → Option (List ℕ)
row_name t = option_map (λ b. b.0) (beta_of t)

-- what f reads of the first item
abbrev pub next : {X : Type 0} → (Shape → Option X) → Items → Option X
next f no_items = None
next f (item t ts) = f t

-- the one comes before the other, where both are there
abbrev pub precedes : {X : Type 0} → (X → X → Ordering) → Option X → Option X → Bool
precedes cmp (Some x) (Some y) = is_lt (cmp x y)
precedes cmp o p = true

-- an entry has a weight above 0, and the next, if there is one, another name
abbrev pub stands_apart : Option (List ℕ × ℕ) → Option (List ℕ × ℕ) → Bool
stands_apart (Some e) (Some d) = nat_lt 0 e.1 && not (bytes_eq d.0 e.0)
stands_apart (Some e) None = nat_lt 0 e.1
stands_apart None o = true

-- an item stands well before the rest of its list
abbrev pub is_in_order : PlanList → Shape → Items → Bool
is_in_order Names t ts = precedes (slice_cmp nat_cmp) (as_text t) (next as_text ts)
is_in_order Alpha t ts = precedes group_cmp (group_of t) (next group_of ts)
is_in_order Beta t ts = precedes (slice_cmp nat_cmp) (row_name t) (next row_name ts)
is_in_order Buckets t ts = stands_apart (entry_of t) (next entry_of ts)

-- ---- the first item of a list that has a fault

-- an item before the rest of its list does not have the fault
abbrev pub is_free : ItemFault → PlanList → Shape → Items → Bool
is_free Misshapen l t ts = is_formed l t
is_free OutOfRange l t ts = is_read l t
is_free OutOfOrder l t ts = is_in_order l t ts

-- the place of the first item for which the test fails, counted from n
abbrev pub first_failing : (Shape → Items → Bool) → ℕ → Items → Option ℕ
first_failing test n no_items = None
first_failing test n (item t ts) = if test t ts then first_failing test (n + 1) ts else Some n

-- the member that a list is
abbrev pub list_name : PlanList → List ℕ
list_name Names = codes "none"
list_name Alpha = codes "alpha"
list_name Beta = codes "beta"
list_name Buckets = codes "rule"

abbrev pub faulty_in : ItemFault → PlanList → Shape → Option Misfit
faulty_in fault l t = option_map (Item fault l) (option_and_then (first_failing (is_free fault l) 0) (items_in (list_name l) t))

-- ---- the sum of the weights

abbrev pub weight_or_none : Option (List ℕ × ℕ) → ℕ
weight_or_none None = 0
weight_or_none (Some e) = e.1

abbrev pub weights_of : Items → ℕ
weights_of no_items = 0
weights_of (item t ts) = weight_or_none (entry_of t) + weights_of ts

abbrev pub total_fault : ℕ → Option Misfit
total_fault total = if nat_lt 0 total then (if nat_lt total (2 ^ 31) then None else Some TooHeavy) else Some NoWeight

abbrev pub total_fault_in : Shape → Option Misfit
total_fault_in t = option_and_then (λ ts. total_fault (weights_of ts)) (items_in (codes "rule") t)

-- ---- the whole

-- the first that there is of two
infixl 10 ◌or◌
abbrev pub ◌or◌ : {A : Type 0} → Option A → Option A → Option A
o or p = option_or o p

-- a misfit, where this is not so
abbrev pub unless : Bool → Misfit → Option Misfit
unless b m = if b then None else Some m

abbrev pub has_list : PlanList → Shape → Bool
has_list l t = is_some (items_in (list_name l) t)

abbrev pub has_number : List ℕ → Shape → Bool
has_number name t = is_some (option_and_then as_whole (member_of name t))

-- the first member of a rule that is missing or of another kind
abbrev pub member_fault_of_rule : Shape → Option Misfit
member_fault_of_rule t =
    unless (has_list Alpha t) (NoList Alpha)
    or unless (has_list Beta t) (NoList Beta)
    or unless (has_number (codes "cost") t) Cost
    or unless (has_list Buckets t) (NoList Buckets)

-- the first member that is missing or of another kind; where `none` is there, no member of a rule is looked for
abbrev pub member_fault_of : Shape → Option Misfit
member_fault_of t =
    unless (is_some (as_object t)) NoObject
    or unless (has_number (codes "plan") t) Plan
    or (if has (codes "none") t then unless (has_list Names t) (NoList Names) else member_fault_of_rule t)

-- the first item that is not of its form
abbrev pub shape_fault_of : Shape → Option Misfit
shape_fault_of t =
    faulty_in Misshapen Names t
    or faulty_in Misshapen Alpha t
    or faulty_in Misshapen Beta t
    or faulty_in Misshapen Buckets t

-- what else keeps it from being a rule with its certificate
abbrev pub rule_fault_of : Shape → Option Misfit
rule_fault_of t =
    faulty_in OutOfRange Alpha t
    or faulty_in OutOfOrder Alpha t
    or faulty_in OutOfOrder Beta t
    or unless (is_some (cost_in t)) CostRange
    or faulty_in OutOfRange Buckets t
    or total_fault_in t
    or faulty_in OutOfOrder Buckets t

-- what else keeps it from being what it says that it holds
abbrev pub content_fault_of : Shape → Option Form → Option Misfit
content_fault_of t None = Some UnknownForm
content_fault_of t (Some Rule) = rule_fault_of t
content_fault_of t (Some (Set kind)) = if has_rule_member t then Some RuleMember else faulty_in OutOfOrder Names t

-- the first member that is missing or of another kind, or else the first item that is not of its form, or else the rest
abbrev pub misfit_of : Shape → Option Misfit
misfit_of t = member_fault_of t or shape_fault_of t or content_fault_of t (form_in t)

-- ---- what is lent

abbrev pub lent : {X : Type 0} → Bor (List ℕ) × X → List ℕ × X
lent r = (r.0.now, r.1)

-- a row of alpha whose name lies elsewhere, without where it lies
abbrev pub lent_alpha : {X : Type 0} → Bor (List ℕ) × ℕ × X → GroupKey × X
lent_alpha r = ((r.0.now, r.1), r.2)

-- The file of a plan: how an answer is written as JSON, and which text is read as one.
use Rattle.std.specs.Prelude.{◌≡◌, ℕ, ◌^◌, ◌==◌, nat_lt, ℤ, pos, negsuc, Bool, true, false, not, ◌&&◌, ◌||◌, List, [], ◌∷◌, ◌++◌, length, if◌then◌else◌, Option, Some, None, is_some, option_map, option_and_then, Result, Ok, Err, codes}
use Rattle.std.specs.Cmp.Lexicographic.{slice_cmp}
use Rattle.std.specs.Map.{keys_of}
use Rattle.std.specs.Ordering.{nat_cmp, is_lt}
use Rattle.std.specs.Result.{result_ok}
use Rattle.std.specs.Str.{bytes_eq}
use Rattle.std.specs.declared.cmp.Ordering.{Ordering}
use Rattle.limits.specs.Limits.{file_bytes}
use Rattle.flag_text.specs.Printing.{text_of}
use Rattle.flag_text.specs.Readers.{as_whole, as_text, as_list, member_of}
use Rattle.flag_text.specs.Reading.{tree_of}
use Rattle.flag_text.specs.Shape.{Shape, whole, text, list, object, Items, no_items, item, no_members, member, is_whole}
use Rattle.flag_text.specs.declared.fault.TextFault.{TextFault}
use Rattle.bucket_core.specs.Reading.{weight_of, bucket_with, rule_of_entries}
use Rattle.bucket_core.specs.Rule.{Entries}
use Rattle.price_core.specs.Request.{number_below}
use Rattle.transport_core.specs.Groups.{GroupKey, group_cmp}
use Rattle.transport_core.specs.declared.certificate.CutKind.{CutKind}
use Rattle.transport_core.specs.declared.certificate.CutKind.TheVariants.{Over, Under}
use Rattle.transport_core.specs.WrittenCertificate.{items_by, alpha_written, beta_written}
use Rattle.plan_text.specs.Answer.{Answer, emit, none_exists}
use Rattle.plan_text.specs.Fault.{of_text}
use Rattle.plan_text.specs.declared.fault.PlanFileFault.{PlanFileFault}
use Rattle.plan_text.specs.declared.fault.PlanFileFault.TheVariants.{BadPlan, TooLarge}
use Rattle.plan_text.specs.declared.form.Form.{Form}
use Rattle.plan_text.specs.declared.form.Form.TheVariants.{Rule, Set}

-- the largest plan file, in bytes
abbrev pub max_plan : ℕ
max_plan = file_bytes

-- ---- writing

-- `[name, weight]`
abbrev pub entry_written : List ℕ × ℕ → Shape
entry_written e = list (item (text e.0) (item (whole (pos e.1)) no_items))

-- A rule stands beside its certificate. A set stands under `none`, with the form and the side that tell its kind.
abbrev pub planned_written : Answer → Shape
planned_written (emit rule c) =
    object (member (codes "alpha") (list (items_by alpha_written c.alpha))
    (member (codes "beta") (list (items_by beta_written c.beta))
    (member (codes "cost") (whole (pos c.cost))
    (member (codes "plan") (whole (pos 1))
    (member (codes "rule") (list (items_by entry_written rule)) no_members)))))
planned_written (none_exists Over names) = object (member (codes "none") (list (items_by text names)) (member (codes "plan") (whole (pos 1)) no_members))
planned_written (none_exists Under names) =
    object (member (codes "none") (list (items_by text names)) (member (codes "plan") (whole (pos 2)) (member (codes "side") (text (codes "under")) no_members)))

-- each number is a whole number that a file can hold
abbrev pub IsWhole : Answer → Type 0
IsWhole answer = is_whole (planned_written answer) ≡ true

-- the text of an answer, unless it is too large for a file
abbrev pub if_small : List ℕ → Result (List ℕ) PlanFileFault
if_small bytes = if nat_lt max_plan (length bytes) then Err TooLarge else Ok bytes

abbrev pub plan_file : Answer → Result (List ℕ) PlanFileFault
plan_file answer = if_small (text_of (planned_written answer))

-- the same as a line, whose end counts
abbrev pub plan_line : Answer → Result (List ℕ) PlanFileFault
plan_line answer = if_small (text_of (planned_written answer) ++ codes "\n")

-- ---- what is in order

-- it comes before the first of these
abbrev pub comes_before : {X : Type 0} → (X → X → Ordering) → X → List X → Bool
comes_before cmp x [] = true
comes_before cmp x (y ∷ ys) = is_lt (cmp x y)

-- each comes before the next, so they are sorted and distinct
abbrev pub rises : {X : Type 0} → (X → X → Ordering) → List X → Bool
rises cmp [] = true
rises cmp (x ∷ xs) = comes_before cmp x xs && rises cmp xs

-- the first entry, if there is one, has another name
abbrev pub begins_apart : List ℕ → Entries → Bool
begins_apart name [] = true
begins_apart name (e ∷ es) = not (bytes_eq e.0 name)

-- no entry has weight 0, and neighbours have different names
abbrev pub is_canonical : Entries → Bool
is_canonical [] = true
is_canonical (e ∷ es) = nat_lt 0 e.1 && (begins_apart e.0 es && is_canonical es)

-- ---- reading

-- what f reads of each item, where it can read all
abbrev pub each : {X : Type 0} → (Shape → Option X) → Items → Option (List X)
each f no_items = Some []
each f (item t ts) = option_and_then (λ x. option_map (λ xs. x ∷ xs) (each f ts)) (f t)

-- the items of the member of this name, a list
abbrev pub items_in : List ℕ → Shape → Option Items
items_in name t = option_and_then as_list (member_of name t)

abbrev pub alpha_parts : Items → Option (GroupKey × ℤ)
alpha_parts (item name (item count (item n no_items))) =
    option_and_then (λ s. option_and_then (λ k. option_map (λ z. ((s, k), z)) (as_whole n)) (number_below (2 ^ 32) count)) (as_text name)
alpha_parts ts = None

-- `[name, count, n]`, the count of 32 bits
abbrev pub alpha_of : Shape → Option (GroupKey × ℤ)
alpha_of t = option_and_then alpha_parts (as_list t)

abbrev pub beta_parts : Items → Option (List ℕ × ℤ)
beta_parts (item name (item n no_items)) = option_and_then (λ s. option_map (λ z. (s, z)) (as_whole n)) (as_text name)
beta_parts ts = None

-- `[name, n]`
abbrev pub beta_of : Shape → Option (List ℕ × ℤ)
beta_of t = option_and_then beta_parts (as_list t)

abbrev pub entry_parts : Items → Option (List ℕ × ℕ)
entry_parts (item name (item weight no_items)) = bucket_with (weight_of weight) name
entry_parts ts = None

-- `[name, weight]`: here a weight is never left out
abbrev pub entry_of : Shape → Option (List ℕ × ℕ)
entry_of t = option_and_then entry_parts (as_list t)

abbrev pub if_alpha_rises : List (GroupKey × ℤ) → Option (List (GroupKey × ℤ))
if_alpha_rises alpha = if rises group_cmp (keys_of alpha) then Some alpha else None

abbrev pub if_beta_rises : List (List ℕ × ℤ) → Option (List (List ℕ × ℤ))
if_beta_rises beta = if rises (slice_cmp nat_cmp) (keys_of beta) then Some beta else None

abbrev pub if_names_rise : List (List ℕ) → Option (List (List ℕ))
if_names_rise names = if rises (slice_cmp nat_cmp) names then Some names else None

abbrev pub if_canonical : Entries → Option Entries
if_canonical rule = if is_canonical rule then Some rule else None

-- entries that make a rule, in its one shape
abbrev pub canonical_rule : Entries → Option Entries
canonical_rule entries = option_and_then if_canonical (result_ok (rule_of_entries entries))

abbrev pub alpha_in : Shape → Option (List (GroupKey × ℤ))
alpha_in t = option_and_then if_alpha_rises (option_and_then (each alpha_of) (items_in (codes "alpha") t))

abbrev pub beta_in : Shape → Option (List (List ℕ × ℤ))
beta_in t = option_and_then if_beta_rises (option_and_then (each beta_of) (items_in (codes "beta") t))

abbrev pub cost_in : Shape → Option ℕ
cost_in t = option_and_then (number_below (2 ^ 53)) (member_of (codes "cost") t)

abbrev pub rule_in : Shape → Option Entries
rule_in t = option_and_then canonical_rule (option_and_then (each entry_of) (items_in (codes "rule") t))

abbrev pub names_in : Shape → Option (List (List ℕ))
names_in t = option_and_then if_names_rise (option_and_then (each as_text) (items_in (codes "none") t))

-- a rule and its certificate
abbrev pub emit_in : Shape → Option Answer
emit_in t =
    option_and_then (λ alpha.
    option_and_then (λ beta.
    option_and_then (λ cost.
    option_map (λ rule. emit rule (record { alpha = alpha; beta = beta; cost = cost }))
    (rule_in t)) (cost_in t)) (beta_in t)) (alpha_in t)

abbrev pub has : List ℕ → Shape → Bool
has name t = is_some (member_of name t)

-- some member of a rule's file is there
abbrev pub has_rule_member : Shape → Bool
has_rule_member t = has (codes "alpha") t || (has (codes "beta") t || (has (codes "cost") t || has (codes "rule") t))

-- a set of names, and nothing of a rule
abbrev pub set_in : CutKind → Shape → Option Answer
set_in kind t = if has_rule_member t then None else option_map (none_exists kind) (names_in t)

-- with form 1 a set under `none` is over its high limits, and there is a rule where `none` is absent
abbrev pub first_form : Shape → Form
first_form t = if has (codes "none") t then Set Over else Rule

-- the side says so
abbrev pub is_under : Option Shape → Bool
is_under (Some (text s)) = bytes_eq s (codes "under")
is_under o = false

-- with form 2 there is a set that is under its low limits, as its side says
abbrev pub second_form : Shape → Option Form
second_form t = if is_under (member_of (codes "side") t) then Some (Set Under) else None

abbrev pub form_of : Shape → ℤ → Option Form
form_of t (pos n) = if n == 1 then Some (first_form t) else (if n == 2 then second_form t else None)
form_of t (negsuc n) = None

abbrev pub form_in : Shape → Option Form
form_in t = option_and_then (form_of t) (option_and_then as_whole (member_of (codes "plan") t))

abbrev pub answer_by : Shape → Form → Option Answer
answer_by t Rule = emit_in t
answer_by t (Set kind) = set_in kind t

-- the names of the members that are looked at
abbrev pub plan_members : List (List ℕ)
plan_members = codes "alpha" ∷ codes "beta" ∷ codes "cost" ∷ codes "none" ∷ codes "plan" ∷ codes "rule" ∷ codes "side" ∷ []

-- The answer that a tree stands for. Members of other names are passed over.
abbrev pub planned_of : Shape → Option Answer
planned_of t = option_and_then (answer_by t) (form_in t)

abbrev pub if_plan : {X : Type 0} → Option X → Result X PlanFileFault
if_plan None = Err BadPlan
if_plan (Some x) = Ok x

abbrev pub if_tree : Result Shape TextFault → Result Answer PlanFileFault
if_tree (Err e) = Err (of_text e)
if_tree (Ok t) = if_plan (planned_of t)

-- the answer of a file; its refusals in their order: too large, no plan
abbrev pub answer_of : List ℕ → Result Answer PlanFileFault
answer_of bytes = if_tree (tree_of bytes max_plan)

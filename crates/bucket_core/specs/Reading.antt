-- Which rule a tree stands for: a list of buckets, as flagd's `fractional` operation writes them.
use Rattle.std.specs.Prelude.{ℕ, ◌^◌, ℤ, pos, negsuc, List, [], ◌∷◌, nat_lt, if◌then◌else◌, Option, Some, None, option_map, option_and_then, Result, Ok, Err}
use Rattle.flag_text.specs.Shape.{Shape, Items, no_items, item}
use Rattle.flag_text.specs.Readers.{as_whole, as_text, as_list}
use Rattle.bucket_core.specs.Rule.{Entries, total_weight}
use Rattle.bucket_core.specs.declared.fault.RuleFault.{RuleFault}
use Rattle.bucket_core.specs.declared.fault.RuleFault.TheVariants.{NoWeight, TooHeavy, BadRule}

-- a number from 0 to 2^31-1
abbrev pub in_weights : ℤ → Option ℕ
in_weights (pos n) = if nat_lt n (2 ^ 31) then Some n else None
in_weights (negsuc n) = None

-- a literal weight
abbrev pub weight_of : Shape → Option ℕ
weight_of t = option_and_then in_weights (as_whole t)

-- a name beside a weight, where both are literal
abbrev pub bucket_with : Option ℕ → Shape → Option (List ℕ × ℕ)
bucket_with weight name = option_and_then (λ s. option_map (λ n. (s, n)) weight) (as_text name)

-- a name, or a name and a weight, which is 1 where it is left out
abbrev pub bucket_from : Items → Option (List ℕ × ℕ)
bucket_from no_items = None
bucket_from (item name no_items) = bucket_with (Some 1) name
bucket_from (item name (item weight no_items)) = bucket_with (weight_of weight) name
bucket_from (item name (item weight (item t ts))) = None

-- a literal bucket
abbrev pub bucket_of : Shape → Option (List ℕ × ℕ)
bucket_of t = option_and_then bucket_from (as_list t)

-- literal buckets, and nothing else
abbrev pub buckets_of : Items → Option Entries
buckets_of no_items = Some []
buckets_of (item t ts) = option_and_then (λ b. option_map (λ bs. b ∷ bs) (buckets_of ts)) (bucket_of t)

-- entries are a rule unless they have no weight at all, or too much
abbrev pub rule_of_entries : Entries → Result Entries RuleFault
rule_of_entries r = if nat_lt 0 (total_weight r) then (if nat_lt (total_weight r) (2 ^ 31) then Ok r else Err TooHeavy) else Err NoWeight

-- what is there, or BadRule (in private contracts alone)
abbrev pub or_bad : {X : Type 0} → Option X → Result X RuleFault
or_bad None = Err BadRule
or_bad (Some x) = Ok x

-- the rule of buckets, where there are any
abbrev pub rule_of_buckets : Option Entries → Result Entries RuleFault
rule_of_buckets None = Err BadRule
rule_of_buckets (Some r) = rule_of_entries r

-- the rule of a tree: first it is a list of literal buckets, then their weights make a rule
abbrev pub rule_of : Shape → Result Entries RuleFault
rule_of t = rule_of_buckets (option_and_then buckets_of (as_list t))

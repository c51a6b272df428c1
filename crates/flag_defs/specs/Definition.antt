-- What a flag's definition in a document means (flagd: flag definitions), and when the flag is broken.
use Rattle.std.specs.Prelude.{◌≡◌, ℕ, suc, List, codes, Bool, true, false, not, ◌&&◌, ◌||◌, nat_le, is_some, Option, Some, None, option_map, if◌then◌else◌}
use Rattle.std.specs.Result.{result_ok}
use Rattle.std.specs.Str.{bytes_eq}
use Rattle.limits.specs.Limits as limit
use Rattle.flag_text.specs.Readers.{as_bool, as_text, as_whole, as_object, find_member}
use Rattle.flag_text.specs.Shape.{Shape, null, text, object, Members, no_members, member, is_whole, levels}
use Rattle.logic_ast.specs.Expression.{Expression}
use Rattle.logic_ast.specs.Reading.{reading}
use Rattle.flag_references.specs.Inlining.{has_reference, IsInlined}

-- of a flag that is good
pub record Rules : Type 0 where
  pub enabled : Bool
  pub variants : Members
  pub default_variant : Option (List ℕ)
  pub targeting : Option Expression

pub data Definition : Type 0 where
  broken : Definition
  good : Rules → Definition

-- ---- state

abbrev pub state_named : List ℕ → Option Bool
state_named s = if bytes_eq s (codes "ENABLED") then Some true else (if bytes_eq s (codes "DISABLED") then Some false else None)

-- whether it is enabled, where it says so
abbrev pub state_of : Option Shape → Option Bool
state_of (Some (text s)) = state_named s
state_of o = None

-- ---- variants

abbrev pub member_count : Members → ℕ
member_count no_members = 0
member_count (member k t ms) = suc (member_count ms)

abbrev pub all_values : (Shape → Bool) → Members → Bool
all_values f no_members = true
all_values f (member k t ms) = f t && all_values f ms

-- the values are of one kind: boolean, text, whole number or object
abbrev pub are_of_one_kind : Members → Bool
are_of_one_kind ms =
    all_values (λ t. is_some (as_bool t)) ms || (all_values (λ t. is_some (as_text t)) ms
    || (all_values (λ t. is_some (as_whole t)) ms || all_values (λ t. is_some (as_object t)) ms))

-- 1 to 64 members of one kind, all their numbers whole, at most 100 levels together
abbrev pub are_variants : Members → Bool
are_variants ms =
    (nat_le 1 (member_count ms) && nat_le (member_count ms) limit.variants) && (are_of_one_kind ms && (is_whole (object ms) && nat_le (levels (object ms)) limit.expression_levels))

abbrev pub variants_of : Option Shape → Option Members
variants_of (Some (object ms)) = if are_variants ms then Some ms else None
variants_of o = None

-- ---- default variant

-- absent and null are none; another is the name of a variant
abbrev pub default_of : Members → Option Shape → Option (Option (List ℕ))
default_of variants None = Some None
default_of variants (Some null) = Some None
default_of variants (Some (text s)) = if is_some (find_member s variants) then Some (Some s) else None
default_of variants (Some t) = None

-- ---- targeting

-- an absent one is as null
abbrev pub or_null : Option Shape → Shape
or_null None = null
or_null (Some t) = t

abbrev pub read_targeting : Shape → Option (Option Expression)
read_targeting u = if is_whole u && not (has_reference u) then option_map Some (result_ok (reading u)) else None

-- Of a targeting with its references replaced: null and `{}` are none, another object is read as an expression.
abbrev pub targeting_of : Shape → Option (Option Expression)
targeting_of null = Some None
targeting_of (object no_members) = Some None
targeting_of (object (member k t ms)) = read_targeting (object (member k t ms))
targeting_of t = None

abbrev pub HasTargeting : Members → Shape → Option Expression → Type 0
HasTargeting evaluators t e = (u : Shape) × IsInlined evaluators t u × (targeting_of u ≡ Some e)

-- ---- definition

-- an object with these members is good, with these rules
pub record IsGood (evaluators : Members) (ms : Members) (r : Rules) : Type 0 where
  pub state : state_of (find_member (codes "state") ms) ≡ Some r.enabled
  pub variants : variants_of (find_member (codes "variants") ms) ≡ Some r.variants
  pub default_variant : default_of r.variants (find_member (codes "defaultVariant") ms) ≡ Some r.default_variant
  pub targeting : HasTargeting evaluators (or_null (find_member (codes "targeting") ms)) r.targeting

-- a flag of this definition is good with these rules, or is broken where there are none
abbrev pub Means : Members → Shape → Definition → Type 0
Means evaluators (object ms) (good r) = IsGood evaluators ms r
Means evaluators (object ms) broken = (r : Rules) → ¬ IsGood evaluators ms r
Means evaluators t (good r) = ⊥
Means evaluators t broken = Unit {0}

-- What a request asks of a new rule, and which of its refusals comes first.
use Rattle.std.specs.Prelude.{ℕ, ◌<◌, ◌^◌, ◌==◌, nat_lt, nat_le, ℤ, pos, negsuc, Bool, true, false, ◌&&◌, ◌||◌, List, [], ◌∷◌, if◌then◌else◌, Option, Some, None, option_map, option_and_then, Result, Ok, Err, codes, string_bytes}
use Rattle.std.specs.BTreeMap.{insert_entry}
use Rattle.std.specs.Cmp.Lexicographic.{slice_cmp}
use Rattle.std.specs.List.{All, list_any, list_all}
use Rattle.std.specs.List.Sorted.{IsStrictlySortedBy}
use Rattle.std.specs.Map.{keys_of}
use Rattle.std.specs.Ordering.{nat_cmp}
use Rattle.std.specs.Str.{bytes_eq}
use Rattle.limits.specs.Limits.{text_bytes}
use Rattle.flag_text.specs.Readers.{as_whole, as_text, as_list, as_object, member_of}
use Rattle.flag_text.specs.Reading.{tree_of}
use Rattle.flag_text.specs.Shape.{Shape, whole, list, Items, no_items, item, Members, no_members, member}
use Rattle.flag_text.specs.declared.fault.TextFault.{TextFault}
use Rattle.price_core.specs.Limits.{Limits, AreLimits, limits_of, limits_view}
use Rattle.price_core.specs.Pricing.{Pair, Pricing, IsPricing, is_same_pair, pair_cmp, max_price, entries_view}
use Rattle.price_core.specs.declared.draft.Draft.{Draft}
use Rattle.price_core.specs.declared.fault.PriceFault.{PriceFault}
use Rattle.price_core.specs.declared.fault.PriceFault.TheVariants.{BadRequest, UnknownVariant, SelfPair, PriceRange, EmptyRange}

-- the flag and the site whose rule is to change, the limits on the new totals, and what changes cost
pub record Asked : Type 0 where
  pub flag : List ℕ
  pub site : ℕ
  pub totals : Limits
  pub prices : Pricing

-- a request as it is written, its prices not yet judged; of a forbidden change nothing more is said
pub record Written : Type 0 where
  pub flag : List ℕ
  pub site : ℕ
  pub totals : Limits
  pub usual : ℤ
  pub named : List (Pair × ℤ)
  pub barred : List (Pair × Unit {0})

-- ---- members

-- what f reads of a member, and x where there is none; null is a member
abbrev pub if_there : {X : Type 0} → X → (Shape → Option X) → Option Shape → Option X
if_there x f None = Some x
if_there x f (Some t) = f t

-- a whole number from 0 to below n
abbrev pub number_below : ℕ → Shape → Option ℕ
number_below n (whole (pos k)) = if nat_lt k n then Some k else None
number_below n t = None

-- whether totals may be ranges: in form 2, and not in form 1
abbrev pub form_of : ℤ → Option Bool
form_of (pos n) = if n == 1 then Some false else (if n == 2 then Some true else None)
form_of (negsuc n) = None

-- the form that the member `plan` asks for
abbrev pub form_in : Shape → Option Bool
form_in t = option_and_then form_of (option_and_then as_whole (member_of (codes "plan") t))

-- the member `flag`: the key of the flag
abbrev pub flag_in : Shape → Option (List ℕ)
flag_in t = option_and_then as_text (member_of (codes "flag") t)

-- the member `site`, 0 where there is none
abbrev pub site_in : Shape → Option ℕ
site_in t = if_there 0 (number_below (2 ^ 32)) (member_of (codes "site") t)

-- the member `price`: what a change costs that `prices` does not name, 1 where there is none
abbrev pub usual_in : Shape → Option ℤ
usual_in t = if_there (pos 1) as_whole (member_of (codes "price") t)

-- ---- totals

-- `[low, high]`
abbrev pub range_of : Items → Option (ℕ × ℕ)
range_of (item low (item high no_items)) = option_and_then (λ l. option_map (λ h. (l, h)) (number_below (2 ^ 31) high)) (number_below (2 ^ 31) low)
range_of ts = None

-- `n` is the range from n to n
abbrev pub limit_of : Bool → Shape → Option (ℕ × ℕ)
limit_of ranges (list ts) = if ranges then range_of ts else None
limit_of ranges t = option_map (λ n. (n, n)) (number_below (2 ^ 31) t)

-- the limits of each name, in the order of the names
abbrev pub limits_with : Bool → Members → Option Limits
limits_with ranges no_members = Some []
limits_with ranges (member name t ms) = option_and_then (λ l. option_map (λ ls. (name, l) ∷ ls) (limits_with ranges ms)) (limit_of ranges t)

-- the members of the member `totals`
abbrev pub members_in : Shape → Option Members
members_in t = option_and_then as_object (member_of (codes "totals") t)

-- the member `totals`: limits on the new total of some names
abbrev pub totals_in : Bool → Shape → Option Limits
totals_in ranges t = option_and_then (limits_with ranges) (members_in t)

-- ---- prices and prohibitions

-- two texts: the variant that a key had, and the one that it is given
abbrev pub pair_of : Shape → Shape → Option Pair
pair_of a b = option_and_then (λ from. option_map (λ to. (from, to)) (as_text b)) (as_text a)

-- `[from, to, n]`
abbrev pub price_parts : Items → Option (Pair × ℤ)
price_parts (item a (item b (item n no_items))) = option_and_then (λ p. option_map (λ k. (p, k)) (as_whole n)) (pair_of a b)
price_parts ts = None

-- `[from, to]`
abbrev pub bar_parts : Items → Option (Pair × Unit {0})
bar_parts (item a (item b no_items)) = option_map (λ p. (p, tt)) (pair_of a b)
bar_parts ts = None

-- what f reads of each item, each of which is a list
abbrev pub each_of : {X : Type 0} → (Items → Option X) → Items → Option (List X)
each_of f no_items = Some []
each_of f (item t ts) = option_and_then (λ x. option_map (λ xs. x ∷ xs) (each_of f ts)) (option_and_then f (as_list t))

-- whether a pair is named more than once
abbrev pub stands_twice : List Pair → Bool
stands_twice [] = false
stands_twice (p ∷ ps) = list_any (is_same_pair p) ps || stands_twice ps

-- the entries in the order of their pairs
abbrev pub in_order : {X : Type 0} → List (Pair × X) → List (Pair × X)
in_order [] = []
in_order (e ∷ es) = insert_entry pair_cmp (in_order es) e.0 e.1

-- the entries in order, if no pair is named twice
abbrev pub once_each : {X : Type 0} → List (Pair × X) → Option (List (Pair × X))
once_each es = if stands_twice (keys_of es) then None else Some (in_order es)

-- the entries of a list that may be absent
abbrev pub pairs_in : {X : Type 0} → (Items → Option X) → Option Shape → Option (List X)
pairs_in f o = option_and_then (each_of f) (if_there no_items as_list o)

-- the member `prices`: the pairs that have a price of their own
abbrev pub named_in : Shape → Option (List (Pair × ℤ))
named_in t = option_and_then once_each (pairs_in price_parts (member_of (codes "prices") t))

-- the member `forbid`: the forbidden pairs
abbrev pub barred_in : Shape → Option (List (Pair × Unit {0}))
barred_in t = option_and_then once_each (pairs_in bar_parts (member_of (codes "forbid") t))

-- ---- the whole

infixl 10 ◌>>=◌
abbrev ◌>>=◌ : {A B : Type 0} → Option A → (A → Option B) → Option B
o >>= f = option_and_then f o

-- the request that a tree is, if each of its members is of its form
abbrev pub written_of : Shape → Option Written
written_of t = do
  ranges ← form_in t
  flag ← flag_in t
  site ← site_in t
  usual ← usual_in t
  totals ← totals_in ranges t
  named ← named_in t
  barred ← barred_in t
  Some (record { flag = flag; site = site; totals = totals; usual = usual; named = named; barred = barred })

-- a change from a variant to itself
abbrev pub is_self_pair : Pair → Bool
is_self_pair p = bytes_eq p.0 p.1

-- whether a price or a prohibition is of such a change
abbrev pub has_self_pair : Written → Bool
has_self_pair w = list_any is_self_pair (keys_of w.named) || list_any is_self_pair (keys_of w.barred)

-- a price from 0 to a million
abbrev pub as_price : ℤ → Option ℕ
as_price (pos n) = if nat_le n max_price then Some n else None
as_price (negsuc n) = None

-- the entries with their prices, if all are from 0 to a million
abbrev pub as_prices : List (Pair × ℤ) → Option (List (Pair × ℕ))
as_prices [] = Some []
as_prices (e ∷ es) = option_and_then (λ n. option_map (λ rest. (e.0, n) ∷ rest) (as_prices es)) (as_price e.1)

-- a price for each change, if all are from 0 to a million
abbrev pub pricing_of : Written → Option Pricing
pricing_of w = option_and_then (λ usual. option_map (λ named. record { usual = usual; named = named; barred = keys_of w.barred }) (as_prices w.named)) (as_price w.usual)

-- whether the low limit is at most the high one
abbrev pub is_range : List ℕ × (ℕ × ℕ) → Bool
is_range l = nat_le l.1.0 l.1.1

-- what is there, or BadRequest
abbrev pub if_written : {X : Type 0} → Option X → Result X PriceFault
if_written None = Err BadRequest
if_written (Some x) = Ok x

-- what is there, or PriceRange
abbrev pub if_in_range : {X : Type 0} → Option X → Result X PriceFault
if_in_range None = Err PriceRange
if_in_range (Some x) = Ok x

-- the request with its prices, unless a range is empty
abbrev pub if_priced : Written → Option Pricing → Result Asked PriceFault
if_priced w None = Err PriceRange
if_priced w (Some prices) = if list_all is_range w.totals then Ok (record { flag = w.flag; site = w.site; totals = w.totals; prices = prices }) else Err EmptyRange

-- The refusals in their order, once the text is a request: a pair of equal names, a price out of range, an empty range.
abbrev pub judged : Written → Result Asked PriceFault
judged w = if has_self_pair w then Err SelfPair else if_priced w (pricing_of w)

-- what is asked by a request that was read
abbrev pub if_judged : Option Written → Result Asked PriceFault
if_judged None = Err BadRequest
if_judged (Some w) = judged w

-- the request that a tree stands for, or its first refusal
abbrev pub request_of : Shape → Result Asked PriceFault
request_of t = if_judged (written_of t)

-- the largest request, in bytes
abbrev pub max_request : ℕ
max_request = text_bytes

-- A text that is no tree is no request.
abbrev pub if_tree : Result Shape TextFault → Result Asked PriceFault
if_tree (Err e) = Err BadRequest
if_tree (Ok t) = request_of t

-- the request that a text stands for, or its first refusal
abbrev pub asked_of : List ℕ → Result Asked PriceFault
asked_of bytes = if_tree (tree_of bytes max_request)

-- ---- the limits on the names of a flag

-- whether the name is among the names
abbrev pub is_known : List (List ℕ) → List ℕ → Bool
is_known names name = list_any (bytes_eq name) names

-- whether both variants of a change are among the names
abbrev pub pair_is_known : List (List ℕ) → Pair → Bool
pair_is_known names p = is_known names p.0 && is_known names p.1

-- each name with limits, and of each pair with a price or a prohibition, is one of these
abbrev pub are_known : List (List ℕ) → Limits → Pricing → Bool
are_known names limits pricing =
    list_all (is_known names) (keys_of limits) && (list_all (pair_is_known names) (keys_of pricing.named) && list_all (pair_is_known names) pricing.barred)

-- each name that the request speaks of is one of these
abbrev pub all_known : List (List ℕ) → Asked → Bool
all_known names a = are_known names a.totals a.prices

-- each of the names once, in the order of their bytes, with its limits
abbrev pub limits_on : Limits → List (List ℕ) → Limits
limits_on asked [] = []
limits_on asked (name ∷ names) = insert_entry (slice_cmp nat_cmp) (limits_on asked names) name (limits_of asked name)

-- the limits on the total of each of the names, if the request speaks of no other
abbrev pub totals_of : List (List ℕ) → Asked → Result Limits PriceFault
totals_of names a = if all_known names a then Ok (limits_on a.totals names) else Err UnknownVariant

-- ---- facts

-- What is written has each name and each pair once, in order, and limits that a total may have.
pub record IsWritten (w : Written) : Type 0 where
  pub totals_rise : IsStrictlySortedBy (slice_cmp nat_cmp) (keys_of w.totals)
  pub totals_small : All (λ l. l.1.1 < 2 ^ 31) w.totals
  pub named_rise : IsStrictlySortedBy pair_cmp (keys_of w.named)
  pub barred_rise : IsStrictlySortedBy pair_cmp (keys_of w.barred)

-- What is asked has lawful limits and prices.
pub record IsAsked (a : Asked) : Type 0 where
  pub limits : AreLimits a.totals
  pub prices : IsPricing a.prices

-- a request of the program, without where its texts lie in memory
abbrev pub draft_view : Draft → Written
draft_view d = record { flag = string_bytes d.flag; site = d.site; totals = limits_view d.totals.items; usual = d.usual; named = entries_view d.named.items; barred = entries_view d.barred.items }

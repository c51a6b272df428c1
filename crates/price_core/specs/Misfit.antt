-- What keeps a tree from being a request, and where.
use Rattle.std.specs.Prelude.{ℕ, ◌+◌, Bool, List, [], ◌∷◌, if◌then◌else◌, Option, Some, None, is_some, option_map, option_and_then, codes}
use Rattle.std.specs.List.{list_any}
use Rattle.std.specs.Option.{option_or}
use Rattle.flag_text.specs.Readers.{as_list, as_object, member_of}
use Rattle.flag_text.specs.Shape.{Shape, Items, no_items, item, Members, no_members, member}
use Rattle.price_core.specs.Pricing.{Pair, is_same_pair}
use Rattle.price_core.specs.Request.{form_in, flag_in, site_in, usual_in, members_in, limit_of, pair_of, price_parts, bar_parts, if_there}
use Rattle.price_core.specs.declared.misfit.Misfit.{Misfit}
use Rattle.price_core.specs.declared.misfit.Misfit.TheVariants.{NoObject, Plan, Flag, Site, Price, Totals, Total, Prices, PricesItem, PricesTwice, Forbid, ForbidItem, ForbidTwice}

-- ---- the first place, counted from n

-- where f does not read a list
abbrev pub first_unread : {X : Type 0} → (Items → Option X) → ℕ → Items → Option ℕ
first_unread f n no_items = None
first_unread f n (item t ts) = if is_some (option_and_then f (as_list t)) then first_unread f (n + 1) ts else Some n

-- where f does not read a total
abbrev pub first_unlimited : (Shape → Option (ℕ × ℕ)) → ℕ → Members → Option ℕ
first_unlimited f n no_members = None
first_unlimited f n (member name t ms) = if is_some (f t) then first_unlimited f (n + 1) ms else Some n

-- `[from, to, ..]`
abbrev pub change_parts : Items → Option Pair
change_parts (item a (item b ts)) = pair_of a b
change_parts ts = None

-- where a change is one of these, or that of an item before it
abbrev pub first_again : List Pair → ℕ → Items → Option ℕ
first_again seen n no_items = None
first_again seen n (item t ts) =
    option_and_then (λ p. if list_any (is_same_pair p) seen then Some n else first_again (p ∷ seen) (n + 1) ts) (option_and_then change_parts (as_list t))

-- ---- the parts of a request

-- the items of the member of this name, a list that may be absent
abbrev pub list_in : List ℕ → Shape → Option Items
list_in name t = if_there no_items as_list (member_of name t)

-- the first total that is none
abbrev pub unlimited_in : Shape → Option ℕ
unlimited_in t = option_and_then (λ ranges. option_and_then (first_unlimited (limit_of ranges) 0) (members_in t)) (form_in t)

-- the first item of a list that f does not read
abbrev pub unread_in : {X : Type 0} → (Items → Option X) → List ℕ → Shape → Option ℕ
unread_in f name t = option_and_then (first_unread f 0) (list_in name t)

-- the first item of a list whose change stands in it before
abbrev pub again_in : List ℕ → Shape → Option ℕ
again_in name t = option_and_then (first_again [] 0) (list_in name t)

-- ---- the whole

-- the first that there is of two
infixl 10 ◌or◌
abbrev pub ◌or◌ : {A : Type 0} → Option A → Option A → Option A
o or p = option_or o p

-- a misfit, where this is not so
abbrev pub unless : Bool → Misfit → Option Misfit
unless b m = if b then None else Some m

-- the first member that is missing or of another kind
abbrev pub member_fault_of : Shape → Option Misfit
member_fault_of t =
    unless (is_some (as_object t)) NoObject
    or unless (is_some (form_in t)) Plan
    or unless (is_some (flag_in t)) Flag
    or unless (is_some (site_in t)) Site
    or unless (is_some (members_in t)) Totals
    or unless (is_some (usual_in t)) Price
    or unless (is_some (list_in (codes "prices") t)) Prices
    or unless (is_some (list_in (codes "forbid") t)) Forbid

-- the first member, or else the first total, or else the first item of a list, that is not of its form
abbrev pub misshape_of : Shape → Option Misfit
misshape_of t =
    member_fault_of t
    or option_map Total (unlimited_in t)
    or option_map PricesItem (unread_in price_parts (codes "prices") t)
    or option_map ForbidItem (unread_in bar_parts (codes "forbid") t)

-- what is not of its form, or else the first change that stands twice in a list
abbrev pub misfit_of : Shape → Option Misfit
misfit_of t =
    misshape_of t
    or option_map PricesTwice (again_in (codes "prices") t)
    or option_map ForbidTwice (again_in (codes "forbid") t)

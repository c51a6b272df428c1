-- What refuses a tree that is a request, and where.
use Rattle.std.specs.Prelude.{ℕ, true, if◌then◌else◌, nat_le, Option, Some, None, is_some, option_map, option_and_then, codes}
use Rattle.flag_text.specs.Shape.{Shape, Items}
use Rattle.price_core.specs.Misfit.{first_unlimited, change_parts, unread_in, ◌or◌}
use Rattle.price_core.specs.Pricing.{Pair}
use Rattle.price_core.specs.Request.{usual_in, members_in, limit_of, price_parts, is_self_pair, as_price}
use Rattle.price_core.specs.declared.request_error.RequestError.{RequestError}
use Rattle.price_core.specs.declared.request_error.RequestError.TheVariants.{PricesSelf, ForbidSelf, UsualPrice, Price, EmptyRange}

-- the change of an item, if it is to another variant
abbrev pub other_parts : Items → Option Pair
other_parts ts = option_and_then (λ p. if is_self_pair p then None else Some p) (change_parts ts)

-- the price of an item, if it is from 0 to a million
abbrev pub fitting_parts : Items → Option ℕ
fitting_parts ts = option_and_then (λ e. as_price e.1) (price_parts ts)

-- the limits of a total, if the low one is at most the high one
abbrev pub range_in : Shape → Option (ℕ × ℕ)
range_in t = option_and_then (λ l. if nat_le l.0 l.1 then Some l else None) (limit_of true t)

-- the first total whose low limit is above its high one
abbrev pub empty_in : Shape → Option ℕ
empty_in t = option_and_then (first_unlimited range_in 0) (members_in t)

-- a usual price that is not from 0 to a million
abbrev pub usual_out : Shape → Option RequestError
usual_out t = if is_some (option_and_then as_price (usual_in t)) then None else Some UsualPrice

-- the first change from a variant to itself, or else the first price out of range, or else the first empty range
abbrev pub request_error_of : Shape → Option RequestError
request_error_of t =
    option_map PricesSelf (unread_in other_parts (codes "prices") t)
    or option_map ForbidSelf (unread_in other_parts (codes "forbid") t)
    or usual_out t
    or option_map Price (unread_in fitting_parts (codes "prices") t)
    or option_map EmptyRange (empty_in t)

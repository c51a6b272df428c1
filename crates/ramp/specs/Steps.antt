-- The requests that a request with steps stands for: one for each list of totals.
use Rattle.std.specs.List.{AllByRecursion}
use Rattle.std.specs.Prelude.{◌≡◌, ◌≤◌, length, IfOk, ℕ, suc, ◌&&◌, nat_le, Bool, List, [], ◌∷◌, map, if◌then◌else◌, Option, Some, None, is_some, option_and_then, Result, Ok, Err, codes, Vec}
use Rattle.std.specs.Str.{bytes_eq}
use Rattle.std.specs.declared.alloc.Global.{Global}
use Rattle.limits.specs.Limits.{ramp_steps}
use Rattle.flag_text.specs.Printing.{text_of}
use Rattle.flag_text.specs.Readers.{as_list, member_of}
use Rattle.flag_text.specs.Reading.{tree_of}
use Rattle.flag_text.specs.Shape.{Shape, null, object, Items, no_items, item, Members, no_members, member}
use Rattle.flag_text.specs.declared.fault.TextFault.{TextFault}
use Rattle.price_core.specs.Request.{Asked, asked_of, max_request, request_of}
use Rattle.price_core.specs.declared.fault.PriceFault.{PriceFault}
use Rattle.ramp.specs.declared.file_fault.StepsFault.{StepsFault}
use Rattle.ramp.specs.declared.file_fault.StepsFault.TheVariants.{Shape as NoSteps, Step}

-- the most steps
abbrev pub most_steps : ℕ
most_steps = ramp_steps

abbrev pub item_count : Items → ℕ
item_count no_items = 0
item_count (item t ts) = suc (item_count ts)

-- one step at least, and no more than the most
abbrev pub some_steps : Items → Option Items
some_steps ts = if nat_le 1 (item_count ts) && nat_le (item_count ts) most_steps then Some ts else None

-- the member `steps`: a list of totals, beside which nothing else says what the totals are
abbrev pub steps_in : Shape → Option Items
steps_in t = if is_some (member_of (codes "totals") t) then None else option_and_then some_steps (option_and_then as_list (member_of (codes "steps") t))

-- The members with these totals in the place of `steps`. Names rise, and each that a request has comes before `steps`: so the members after it are left out.
abbrev pub with_totals : Shape → Members → Members
with_totals totals no_members = no_members
with_totals totals (member name t ms) = if bytes_eq name (codes "steps") then member (codes "totals") totals no_members else member name t (with_totals totals ms)

-- the request of one step
abbrev pub request_with : Shape → Shape → Shape
request_with (object ms) totals = object (with_totals totals ms)
request_with t totals = null

-- the texts of the requests, in the order of the steps
abbrev pub requests_with : Shape → Items → List (List ℕ)
requests_with t no_items = []
requests_with t (item totals ts) = text_of (request_with t totals) ∷ requests_with t ts

-- whether this step is a request, and all that follow
abbrev pub judged_by : ℕ → Result Asked PriceFault → Result (Unit {0}) StepsFault → Result (Unit {0}) StepsFault
judged_by n (Ok asked) rest = rest
judged_by n (Err e) rest = Err (Step n e)

-- the first step, from number n on, that is no request
abbrev pub judged : ℕ → List (List ℕ) → Result (Unit {0}) StepsFault
judged n [] = Ok tt
judged n (request ∷ requests) = judged_by n (asked_of request) (judged (suc n) requests)

abbrev pub if_judged : List (List ℕ) → Result (Unit {0}) StepsFault → Result (List (List ℕ)) StepsFault
if_judged requests (Ok u) = Ok requests
if_judged requests (Err e) = Err e

abbrev pub if_steps : Shape → Option Items → Result (List (List ℕ)) StepsFault
if_steps t None = Err NoSteps
if_steps t (Some ts) = if_judged (requests_with t ts) (judged 1 (requests_with t ts))

abbrev pub if_tree : Result Shape TextFault → Result (List (List ℕ)) StepsFault
if_tree (Err e) = Err NoSteps
if_tree (Ok t) = if_steps t (steps_in t)

-- The requests of the steps that a text stands for. Its refusals in their order: no steps, and the first step that is no request.
abbrev pub steps_of : List ℕ → Result (List (List ℕ)) StepsFault
steps_of bytes = if_tree (tree_of bytes max_request)

-- ---- what they have in common

-- the request asks for a rule of this site of this flag, by these prices
abbrev pub AsksFor : Asked → List ℕ → Type 0
AsksFor first request = IfOk (asked_of request) (λ asked. (asked.flag ≡ first.flag) × (asked.site ≡ first.site) × (asked.prices ≡ first.prices))

-- all of them do
abbrev pub AskAlike : List (List ℕ) → Type 0
AskAlike requests = (first : Asked) × AllByRecursion (AsksFor first) requests

-- the text asks what the tree of a step's request asks, unless it is too long for a request
abbrev pub AsksAsTree : Shape → List ℕ → Type 0
AsksAsTree t request = (totals : Shape) × (length request ≤ max_request → asked_of request ≡ request_of (request_with t totals))

-- requests of the program, without where they lie in memory
abbrev pub requests_view : List (Vec ℕ Global) → List (List ℕ)
requests_view rs = map (λ v. v.items) rs

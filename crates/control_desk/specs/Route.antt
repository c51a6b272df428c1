-- Where a request leads (RFC 9110, 9.3.2: HEAD is taken where GET is).
use Rattle.std.specs.Prelude.{ℕ, Bool, true, false, ◌&&◌, ◌||◌, List, codes, Option, Some, None, if◌then◌else◌}
use Rattle.std.specs.Str.{bytes_eq}
use Rattle.control_flags.specs.Calls.{method_at, place_of}
use Rattle.control_flags.specs.declared.place.ControlPlace.{ControlPlace}
use Rattle.control_flags.specs.declared.place.ControlPlace.TheVariants.{Console, Apply, Elsewhere}
use Rattle.control_desk.specs.declared.reply.Reply.{Reply}
use Rattle.control_desk.specs.declared.reply.Reply.TheVariants.{OnlyGet, OnlyPost, Unauthorized}
use Rattle.control_desk.specs.declared.route.Route.{Route}
use Rattle.control_desk.specs.declared.route.Route.TheVariants.{Forwarded, Replied, Called}

-- the application of plans is no place, unless it is allowed
abbrev pub served : Bool → ControlPlace → ControlPlace
served may_apply Apply = if may_apply then Apply else Elsewhere
served may_apply place = place

abbrev pub takes : List ℕ → List ℕ → Bool
takes taken method = bytes_eq method taken || (bytes_eq taken (codes "GET") && bytes_eq method (codes "HEAD"))

abbrev pub other_method : List ℕ → Reply
other_method taken = if bytes_eq taken (codes "GET") then OnlyGet else OnlyPost

abbrev pub is_console : ControlPlace → Bool
is_console Console = true
is_console place = false

-- a key is wanted of all calls but the console, which asks for it
abbrev pub admitted : Bool → ControlPlace → Route
admitted is_admitted place = if is_admitted || is_console place then Called place else Replied Unauthorized

abbrev pub route_at : Bool → List ℕ → ControlPlace → Option (List ℕ) → Route
route_at is_admitted method place None = Forwarded
route_at is_admitted method place (Some taken) = if takes taken method then admitted is_admitted place else Replied (other_method taken)

abbrev pub route_of : Bool → Bool → List ℕ → List ℕ → Route
route_of may_apply is_admitted method path = route_at is_admitted method (served may_apply (place_of path)) (method_at (served may_apply (place_of path)))

-- What is asked of a listener for operations, and what its guard replies.
use Rattle.std.specs.Prelude.{ℕ, Bool, true, false, ◌&&◌, List, codes, Option, Some, None, if◌then◌else◌}
use Rattle.std.specs.Str.{bytes_eq}
use Rattle.http.specs.Request.{head_of}
use Rattle.http.specs.declared.request.Request.{Request}
use Rattle.http_header.specs.HeaderMap.{get}
use Rattle.http_uri.specs.Uri.{uri_path}
use Rattle.ofrep_requests.specs.Request.{place_of}
use Rattle.ofrep_guards.specs.Asked.{evaluates, value_of}
use Rattle.ofrep_guards.specs.Hosts.{Hosts, hosts_view, is_no_stranger, names_own}
use Rattle.ofrep_guards.specs.declared.admin_rules.AdminRules as code
use Rattle.ofrep_guards.specs.declared.reply.Reply.{Reply}
use Rattle.ofrep_guards.specs.declared.reply.Reply.TheVariants.{Elsewhere, Foreign, Stops, Leaves, OnlyPost}

-- ---- requests

-- the method, the path, and the first values of the fields Host and Origin
pub record AdminAsked : Type 0 where
  pub method : List ℕ
  pub path : List ℕ
  pub host : Option (List ℕ)
  pub origin : Option (List ℕ)

abbrev pub admin_asked : Request (List ℕ) → AdminAsked
admin_asked r = record {
  method = (head_of r).method;
  path = uri_path (head_of r).uri;
  host = value_of (get (head_of r).headers (codes "host"));
  origin = value_of (get (head_of r).headers (codes "origin"));
}

-- ---- rules

-- the listener's own hosts, and whether it may be asked to stop the service
pub record AdminRules : Type 0 where
  pub hosts : Hosts
  pub may_stop : Bool

abbrev pub admin_view : code.AdminRules → AdminRules
admin_view r = record { hosts = hosts_view r.hosts.now; may_stop = r.may_stop }

-- ---- what the guard replies, if anything

-- to a request for the service to stop
abbrev pub stop_reply : AdminAsked → Option Reply
stop_reply r = if bytes_eq r.method (codes "POST") then Some Stops else Some OnlyPost

-- to any other request, by whether the service is stopping: it is not ready then, and flags are evaluated elsewhere
abbrev pub operations_reply : Bool → AdminAsked → Option Reply
operations_reply is_stopping r =
    if is_stopping && bytes_eq r.path (codes "/readyz") then Some Leaves else
    (if evaluates (place_of r.path) then Some Elsewhere else None)

-- to a request of nobody but the listener's own
abbrev pub own_reply : AdminRules → Bool → AdminAsked → Option Reply
own_reply rules is_stopping r =
    if rules.may_stop && bytes_eq r.path (codes "/stop") then stop_reply r else operations_reply is_stopping r

-- the request names the listener's own host, and no page but one of its own
abbrev pub is_of_own : Hosts → AdminAsked → Bool
is_of_own hosts r = names_own hosts r.host && is_no_stranger hosts r.origin

-- What the guard replies to a request by its rules, and by whether the service is stopping. None: the request is passed on.
abbrev pub admin_reply : AdminRules → Bool → AdminAsked → Option Reply
admin_reply rules is_stopping r = if is_of_own rules.hosts r then own_reply rules is_stopping r else Some Foreign

-- the service stops by it
abbrev pub stops : Option Reply → Bool
stops (Some Stops) = true
stops reply = false

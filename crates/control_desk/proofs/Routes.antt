-- Where requests lead.
use Rattle.std.proofs.Common.{◌≡◌, ◌≢◌, ◌||◌, ℕ, Bool, true, false, List, codes, if◌then◌else◌}
use Rattle.control_flags.specs.Calls.{method_at, place_of}
use Rattle.control_flags.specs.declared.place.ControlPlace.{ControlPlace}
use Rattle.control_flags.specs.declared.place.ControlPlace.TheVariants.{Console, Flags, Snapshot, Record, Plan, Check, Apply, History, Elsewhere}
use Rattle.control_desk.specs.Route.{is_console, other_method, route_at, route_of, served, takes}
use Rattle.control_desk.specs.declared.reply.Reply.{Reply}
use Rattle.control_desk.specs.declared.reply.Reply.TheVariants.{Unauthorized}
use Rattle.control_desk.specs.declared.route.Route.TheVariants.{Replied, Called}

-- a call leads to the place that was found
at : (taken known : Bool) (found place : ControlPlace) (reply : Reply) → found ≢ Elsewhere
    → (if taken then (if known then Called found else Replied Unauthorized) else Replied reply) ≡ Called place → place ≢ Elsewhere
at true true found place reply somewhere is = λ e. somewhere (let same : found ≡ place = cc in cc)
at true false found place reply somewhere is = absurd (cc is)
at false known found place reply somewhere is = absurd (cc is)

by_place : (known : Bool) (method : List ℕ) (found place : ControlPlace) → route_at known method found (method_at found) ≡ Called place → place ≢ Elsewhere
by_place known method Console place is = at (takes (codes "GET") method) (known || is_console Console) Console place (other_method (codes "GET")) (λ e. cc e) is
by_place known method Flags place is = at (takes (codes "GET") method) (known || is_console Flags) Flags place (other_method (codes "GET")) (λ e. cc e) is
by_place known method Snapshot place is = at (takes (codes "GET") method) (known || is_console Snapshot) Snapshot place (other_method (codes "GET")) (λ e. cc e) is
by_place known method Record place is = at (takes (codes "GET") method) (known || is_console Record) Record place (other_method (codes "GET")) (λ e. cc e) is
by_place known method History place is = at (takes (codes "GET") method) (known || is_console History) History place (other_method (codes "GET")) (λ e. cc e) is
by_place known method Plan place is = at (takes (codes "POST") method) (known || is_console Plan) Plan place (other_method (codes "POST")) (λ e. cc e) is
by_place known method Check place is = at (takes (codes "POST") method) (known || is_console Check) Check place (other_method (codes "POST")) (λ e. cc e) is
by_place known method Apply place is = at (takes (codes "POST") method) (known || is_console Apply) Apply place (other_method (codes "POST")) (λ e. cc e) is
by_place known method Elsewhere place is = absurd (cc is)

-- no call leads elsewhere
pub called : (may_apply known : Bool) (method path : List ℕ) (place : ControlPlace) → route_of may_apply known method path ≡ Called place → place ≢ Elsewhere
called may_apply known method path place is = by_place known method (served may_apply (place_of path)) place is

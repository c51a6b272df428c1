-- What an answer depends on of a request (RFC 9110: method, target, fields, content).
use Rattle.std.specs.Prelude.{ℕ, List, Bool, true, false, map}
use Rattle.ofrep_requests.specs.declared.place.Place.{Place}
use Rattle.ofrep_requests.specs.declared.place.Place.TheVariants.{OneFlag, EveryFlag, Health, Metrics, Nowhere}
use Rattle.ofrep_answers.specs.declared.request.Request as program

-- its method, its path without the query, the values of its fields If-None-Match, and its body
pub record Asked : Type 0 where
  pub method : List ℕ
  pub path : List ℕ
  pub if_none_match : List (List ℕ)
  pub body : List ℕ

-- what a request asks
abbrev pub request_view : program.Request → Asked
request_view r = record { method = r.method.now; path = r.path.now; if_none_match = map (λ field. field.now) r.if_none_match.now; body = r.body.now }

-- flags are evaluated there
abbrev pub evaluates : Place → Bool
evaluates OneFlag = true
evaluates EveryFlag = true
evaluates Health = false
evaluates Metrics = false
evaluates Nowhere = false

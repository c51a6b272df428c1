-- What the answers of a desk rest on stands, and stays.
use Rattle.std.proofs.Common.{◌≡◌, ℕ, List, Option, is_some, inl, inr, subst, sym}
use Rattle.flagops_shell.specs.Files.{Holding}
use Rattle.http.specs.declared.request.Request.{Request}
use Rattle.http_server.specs.declared.response.Response.{Response}
use Rattle.ofrep_guards.specs.Asked.{asked_of, is_admitted}
use Rattle.snap_share.specs.Known.{Seat}
use Rattle.control_desk.specs.Asked.{call_asked}
use Rattle.control_desk.specs.Desk.{Desks, DesksBy, Hindered, IsOwn, Page, Passes, Stands}
use Rattle.control_desk.specs.Files.{Naming}
use Rattle.control_desk.specs.Route.{route_of}
use Rattle.control_desk.specs.Rules.{Rules}
use Rattle.control_desk.specs.declared.route.Route.{Route}
use Rattle.control_desk.specs.declared.route.Route.TheVariants.{Forwarded, Replied, Called}

module _ {S : Type 0} (answers : S → Request (List ℕ) → Response → S → Type 0) (stands : S → Request (List ℕ) → Response → Type 0) where
  passed : ((old : S) (request : Request (List ℕ)) (response : Response) (new : S) → answers old request response new → stands new request response)
      → (old : S) (request : Request (List ℕ)) (response : Response) (new : S) → Passes answers old request response new → Stands stands new request response
  passed given old request response new (inl is) = inr (inr (given old request response new is))
  passed given old request response new (inr leaves) = inr (inl leaves.0)

  by_route : ((old : S) (request : Request (List ℕ)) (response : Response) (new : S) → answers old request response new → stands new request response)
      → (route : Route) (naming : Option Naming) (before after : Option Holding) (had has : Hindered) (rules : Rules) (page : Page) (seat seat' : Seat) (old : S) (request : Request (List ℕ)) (response : Response) (new : S)
      → (IsOwn route → Stands stands new request response)
      → DesksBy answers route naming before after had has rules page seat seat' old request response new → Stands stands new request response
  by_route given Forwarded naming before after had has rules page seat seat' old request response new own is = passed given old request response new is.2
  by_route given (Replied reply) naming before after had has rules page seat seat' old request response new own is = own tt
  by_route given (Called called) naming before after had has rules page seat seat' old request response new own is = own tt

  pub desked : ((old : S) (request : Request (List ℕ)) (response : Response) (new : S) → answers old request response new → stands new request response)
      → (keys : Option (List (List ℕ))) (naming : Option Naming) (before after : Option Holding) (had has : Hindered) (rules : Rules) (page : Page) (seat seat' : Seat) (old : S) (request : Request (List ℕ)) (response : Response) (new : S)
      → Desks answers keys naming before after had has rules page seat seat' old request response new → Stands stands new request response
  desked given keys naming before after had has rules page seat seat' old request response new is =
      by_route given (route_of (is_some rules.applied_to) (is_admitted keys (asked_of request)) (call_asked request).method (call_asked request).path) naming before after had has rules page seat seat' old request response new
      (λ o. inl (is_some rules.applied_to, is_admitted keys (asked_of request), o)) is

  -- another state in which all that stood stands
  abbrev Stays : S → S → Type 0
  Stays old new = (earlier : Request (List ℕ)) (given : Response) → stands old earlier given → stands new earlier given

  same : (old new : S) → new ≡ old → Stays old new
  same old new is earlier given rests = subst (λ (s : S). stands s earlier given) (sym is) rests

  pub still : (old new : S) → Stays old new → (earlier : Request (List ℕ)) (given : Response) → Stands stands old earlier given → Stands stands new earlier given
  still old new stays earlier given (inl own_one) = inl own_one
  still old new stays earlier given (inr (inl leaves)) = inr (inl leaves)
  still old new stays earlier given (inr (inr rests)) = inr (inr (stays earlier given rests))

  passed_stays : ((old : S) (request : Request (List ℕ)) (response : Response) (new : S) → answers old request response new → Stays old new)
      → (old : S) (request : Request (List ℕ)) (response : Response) (new : S) → Passes answers old request response new → Stays old new
  passed_stays stays old request response new (inl is) = stays old request response new is
  passed_stays stays old request response new (inr leaves) = same old new leaves.1

  stays_by : ((old : S) (request : Request (List ℕ)) (response : Response) (new : S) → answers old request response new → Stays old new)
      → (route : Route) (naming : Option Naming) (before after : Option Holding) (had has : Hindered) (rules : Rules) (page : Page) (seat seat' : Seat) (old : S) (request : Request (List ℕ)) (response : Response) (new : S)
      → DesksBy answers route naming before after had has rules page seat seat' old request response new → Stays old new
  stays_by stays Forwarded naming before after had has rules page seat seat' old request response new is = passed_stays stays old request response new is.2
  stays_by stays (Replied reply) naming before after had has rules page seat seat' old request response new is = same old new is.2
  stays_by stays (Called called) naming before after had has rules page seat seat' old request response new is = same old new is.0

  pub desked_stays : ((old : S) (request : Request (List ℕ)) (response : Response) (new : S) → answers old request response new
      → (earlier : Request (List ℕ)) (given : Response) → stands old earlier given → stands new earlier given)
      → (keys : Option (List (List ℕ))) (naming : Option Naming) (before after : Option Holding) (had has : Hindered) (rules : Rules) (page : Page) (seat seat' : Seat) (old : S) (request : Request (List ℕ)) (response : Response) (new : S)
      → Desks answers keys naming before after had has rules page seat seat' old request response new
      → (earlier : Request (List ℕ)) (given : Response) → Stands stands old earlier given → Stands stands new earlier given
  desked_stays stays keys naming before after had has rules page seat seat' old request response new is =
      still old new (stays_by stays (route_of (is_some rules.applied_to) (is_admitted keys (asked_of request)) (call_asked request).method (call_asked request).path) naming before after had has rules page seat seat' old request response new is)

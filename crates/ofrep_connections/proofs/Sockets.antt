-- What goes over a socket, step after step.
use Rattle.std.proofs.Common.{◌≡◌, ℕ, List, [], ◌++◌, ◌≤◌, length, take, arith, Option, Some, None, Result, Ok, Err, IfOk, OnErr, ap, append-nil, append_assoc, refl, sym, subst, ◌∙◌}
use Rattle.std.specs.Io.KnownBytes.{append_known, prepend_known}
use Rattle.http.specs.declared.request.Request.{Request}
use Rattle.http_server.specs.declared.response.Response.{Response}
use Rattle.http_server.specs.Connection.{history}
use Rattle.http_server.specs.History.{History, IsQuiet, after_read, after_sent}
use Rattle.http_server.specs.declared.connection.Connection.{Connection}
use Rattle.service_layers.specs.Stand.{AllStand}
use Rattle.std.proofs.lemmas.List.{take-take}
use Rattle.ofrep_connections.specs.Socket.{Exchanges, IsTied}
use Rattle.ofrep_connections.specs.Waiting.{IsFront}

append_none : (known : Option (List ℕ)) → known ≡ append_known known []
append_none None = refl
append_none (Some xs) = ap Some (sym (append-nil xs))

prepend_none : (known : Option (List ℕ)) → known ≡ prepend_known [] known
prepend_none None = refl
prepend_none (Some xs) = refl

append_twice : (known : Option (List ℕ)) (a b : List ℕ) → append_known (append_known known a) b ≡ append_known known (a ++ b)
append_twice None a b = refl
append_twice (Some xs) a b = ap Some (append_assoc xs a b)

prepend_twice : (known : Option (List ℕ)) (a b : List ℕ) → prepend_known a (prepend_known b known) ≡ prepend_known (a ++ b) known
prepend_twice None a b = refl
prepend_twice (Some xs) a b = ap Some (sym (append_assoc a b xs))

-- nothing goes over it
pub exchanges_none : (old new : History) (from from' to to' : Option (List ℕ)) → new.received ≡ old.received → new.sent ≡ old.sent → from' ≡ from → to' ≡ to → Exchanges old new from from' to to'
exchanges_none old new from from' to to' received sent came given = record {
  more = [];
  told = [];
  received = received ∙ sym (append-nil old.received);
  came = sym came ∙ prepend_none from';
  sent = sent ∙ sym (append-nil old.sent);
  given = given ∙ append_none to;
}

-- what goes over it goes on
pub exchanges_then : (a b c : History) (fa fb fc ta tb tc : Option (List ℕ)) → Exchanges a b fa fb ta tb → Exchanges b c fb fc tb tc → Exchanges a c fa fc ta tc
exchanges_then a b c fa fb fc ta tb tc x y = record {
  more = x.more ++ y.more;
  told = x.told ++ y.told;
  received = y.received ∙ ap (λ (l : List ℕ). l ++ y.more) x.received ∙ append_assoc a.received x.more y.more;
  came = x.came ∙ ap (prepend_known x.more) y.came ∙ prepend_twice fc x.more y.more;
  sent = y.sent ∙ ap (λ (l : List ℕ). l ++ y.told) x.sent ∙ append_assoc a.sent x.told y.told;
  given = y.given ∙ ap (λ (o : Option (List ℕ)). append_known o y.told) x.given ∙ append_twice ta x.told y.told;
}

-- an advance moves nothing
pub exchanges_quiet : (a b c : History) (from from' to to' : Option (List ℕ)) → Exchanges a b from from' to to' → IsQuiet b c → Exchanges a c from from' to to'
exchanges_quiet a b c from from' to to' x q = exchanges_then a b c from from' from' to to' to' x (exchanges_none b c from' from' to' to' q.0 q.2 refl refl)

pub of_read : {E : Type 0} (r : Result ℕ E) (old new : Connection) (from from' to to' : Option (List ℕ))
    → IfOk r (λ n. (more : List ℕ) × (length more ≡ n) × (from ≡ prepend_known more from') × (history new ≡ after_read (history old) more))
    → OnErr r ((history new ≡ history old) × (from' ≡ from)) → to' ≡ to → Exchanges (history old) (history new) from from' to to'
of_read (Ok n) old new from from' to to' ok err same = record {
  more = ok.0;
  told = [];
  received = ap (λ (h : History). h.received) ok.3;
  came = ok.2;
  sent = ap (λ (h : History). h.sent) ok.3 ∙ sym (append-nil (history old).sent);
  given = same ∙ append_none to;
}
of_read (Err e) old new from from' to to' ok err same =
    exchanges_none (history old) (history new) from from' to to' (ap (λ (h : History). h.received) err.0) (ap (λ (h : History). h.sent) err.0) err.1 same

pub read_calls : {E : Type 0} (r : Result ℕ E) (old new : Connection) (from from' : Option (List ℕ))
    → IfOk r (λ n. (more : List ℕ) × (length more ≡ n) × (from ≡ prepend_known more from') × (history new ≡ after_read (history old) more))
    → OnErr r ((history new ≡ history old) × (from' ≡ from)) → (history new).calls ≡ (history old).calls
read_calls (Ok n) old new from from' ok err = ap (λ (h : History). h.calls) ok.3
read_calls (Err e) old new from from' ok err = ap (λ (h : History). h.calls) err.0

-- what is first of a front is first of all
pub given_front : (to to' : Option (List ℕ)) (front all : List ℕ) (n : ℕ) → IsFront front all → n ≤ length front → to' ≡ append_known to (take n front) → to' ≡ append_known to (take n all)
given_front to to' front all n f few given = given ∙ ap (λ (l : List ℕ). append_known to l) (ap (take n) f.1 ∙ take-take n (length front) all few)

-- the socket was given a front of what was pending, which has been handed out
pub exchanges_given : (old new : History) (from from' to to' : Option (List ℕ)) (n : ℕ) → new ≡ after_sent old n → to' ≡ append_known to (take n old.pending) → from' ≡ from → Exchanges old new from from' to to'
exchanges_given old new from from' to to' n is given same = record {
  more = [];
  told = take n old.pending;
  received = ap (λ (h : History). h.received) is ∙ sym (append-nil old.received);
  came = sym same ∙ prepend_none from';
  sent = ap (λ (h : History). h.sent) is;
  given = given;
}

tied_more : (to : Option (List ℕ)) (old new : History) (told : List ℕ) → new.sent ≡ old.sent ++ told → IsTied to old.sent → IsTied (append_known to told) new.sent
tied_more None old new told sent h = tt
tied_more (Some bytes) old new told sent h =
    (h.0, ap (λ (l : List ℕ). l ++ told) h.1 ∙ append_assoc h.0 old.sent told ∙ ap (λ (l : List ℕ). h.0 ++ l) (sym sent))

-- what the socket was given ends still with all that was sent
pub tied_on : (old new : History) (from from' to to' : Option (List ℕ)) → Exchanges old new from from' to to' → IsTied to old.sent → IsTied to' new.sent
tied_on old new from from' to to' x h = subst (λ (o : Option (List ℕ)). IsTied o new.sent) (sym x.given) (tied_more to old new x.told x.sent h)

-- nothing was asked yet
pub nothing_stands : {S : Type 0} (stands : S → Request (List ℕ) → Response → Type 0) (s : S) → AllStand stands s []
nothing_stands stands s c i = absurd (omega (arith, i.1))

-- nothing was sent yet
pub tied_new : (to : Option (List ℕ)) → IsTied to []
tied_new None = tt
tied_new (Some bytes) = (bytes, sym (append-nil bytes))
